-- That a machine is made in a start state.
use Rattle.std.proofs.Common.{◌≡◌, ℕ, ◌+◌, ◌-◌, ◌*◌, ◌/◌, ◌%◌, ◌^◌, ◌<◌, ◌≤◌, Bool, true, false, List, [], ◌∷◌, ◌++◌, length, get_or, refl, sym, subst, ◌∙◌, arith, nat_lt, nat_le, All, lit<}
use Rattle.std.proofs.lemmas.Bool.{and_parts, and_from, ltb-true, lt-ltb, leb-true, le-leb}
use Rattle.std.proofs.lemmas.List.Sums.{AllPass-from_list_all}
use Rattle.std.proofs.lemmas.List.Folds.{list_all-append}
use Rattle.std.specs.List.{list_all}
use Rattle.csa_chain.specs.MemoryBytes.{Memory}
use Rattle.elf_image.specs.Images.{ImageData}
use Rattle.tcd_base.specs.declared.range.Range.{Range}
use Rattle.tcd_plan.specs.PlanData.{PlanData, IsPlan, is_plan_range, areas_range}
use Rattle.tc_machine.specs.declared.events.End.TheVariants.{Running}
use Rattle.tc_machine.specs.declared.state.Machine.{Machine}
use Rattle.tc_machine.specs.Machine.{is_interrupt_stack_used, AreRegisters, IsMachine}
use Rattle.tc_machine.specs.PlanAreas.{first_link}
use Rattle.tc_machine.specs.Starting.{Starts, a_at_start, psw_at_start, start_memory_ranges, IsZeroFilledStart}
use Rattle.tc_machine.proofs.PlanLaws.{link_lt}
use Rattle.tc_machine.proofs.StartMemory.{IsStartMemory}

-- ---- ranges that fit
abbrev fits : Range → Bool
fits r = nat_le (r.at + r.len) (2 ^ 32)

fits_each : (rs : List Range) → list_all is_plan_range rs ≡ true → list_all fits rs ≡ true
fits_each [] e = refl
fits_each (r ∷ rs) e = and_from (fits r) (list_all fits rs) (and_parts _ (fits r) (and_parts (is_plan_range r) (list_all is_plan_range rs) e).0).1 (fits_each rs (and_parts (is_plan_range r) (list_all is_plan_range rs) e).1)

pub mapped_fit : (plan : PlanData) → IsPlan plan → All (λ r. r.at + r.len ≤ 2 ^ 32) (start_memory_ranges plan.rom plan.ram plan.csa_at plan.areas)
mapped_fit plan ok =
    let k = ok.areas in
    let end : plan.csa_at + 64 * plan.areas ≤ 2 ^ 32 = (let w = k.word in let f = k.fit in let s = k.in_segment in omega arith) in
    let last : list_all fits (areas_range plan ∷ []) ≡ true = and_from _ true (le-leb (plan.csa_at + 64 * plan.areas) (2 ^ 32) end) refl in
    let front : list_all fits (plan.rom ++ plan.ram) ≡ true =
    list_all-append fits plan.rom plan.ram ∙ and_from _ _ (fits_each plan.rom (ok.ranges).rom) (fits_each plan.ram (ok.ranges).ram) in
    let all = AllPass-from_list_all fits (start_memory_ranges plan.rom plan.ram plan.csa_at plan.areas) (list_all-append fits (plan.rom ++ plan.ram) (areas_range plan ∷ []) ∙ and_from _ _ front last) in
    λ i d lt. leb-true _ (2 ^ 32) (all i d lt)

-- ---- registers
abbrev is_word : ℕ → Bool
is_word w = nat_lt w (2 ^ 32)

are_registers : (ws : List ℕ) → length ws ≡ 16 → list_all is_word ws ≡ true → AreRegisters ws
are_registers ws long e = record { count = long; words = λ i d lt. ltb-true _ (2 ^ 32) (AllPass-from_list_all is_word ws e i d lt) }

four : (gs : List ℕ) → length gs ≡ 4 → get_or gs 0 0 ∷ get_or gs 1 0 ∷ get_or gs 2 0 ∷ get_or gs 3 0 ∷ [] ≡ gs
four [] e = absurd (omega arith)
four (a ∷ []) e = absurd (omega arith)
four (a ∷ b ∷ []) e = absurd (omega arith)
four (a ∷ b ∷ c ∷ []) e = absurd (omega arith)
four (a ∷ b ∷ c ∷ d ∷ []) e = refl
four (a ∷ b ∷ c ∷ d ∷ f ∷ gs) e = absurd (omega arith)

psw_lt : (is : Bool) → psw_at_start is < 2 ^ 32
psw_lt true = lit< tt
psw_lt false = lit< tt

psw_is : (is : Bool) → is_interrupt_stack_used (psw_at_start is) ≡ is
psw_is true = refl
psw_is false = refl

psw_io : (is : Bool) → psw_at_start is / 2 ^ 10 % 4 ≡ 2
psw_io true = refl
psw_io false = refl

abbrev pub state_of : PlanData → ℕ → ℕ → ℕ → Memory → Machine
state_of plan entry psw first mem = record {
  pc = entry;
  d = 0 ∷ 0 ∷ 0 ∷ 0 ∷ 0 ∷ 0 ∷ 0 ∷ 0 ∷ 0 ∷ 0 ∷ 0 ∷ 0 ∷ 0 ∷ 0 ∷ 0 ∷ 0 ∷ [];
  a = a_at_start plan;
  psw = psw;
  pcxi = 0;
  fcx = first;
  lcx = first + (plan.areas - plan.reserve);
  ccpn = plan.start_ccpn;
  ie = plan.start_ie;
  biv = plan.biv;
  btv = plan.btv;
  isp = plan.isp;
  mem = mem;
  end = Running;
  core = plan.core;
}

module _ (image : ImageData) (plan : PlanData) (mem : Memory) (ok : IsPlan plan) (memory : IsStartMemory image plan mem) (fits_entry : image.entry < 2 ^ 32) where
  global : (i : ℕ) → i < 4 → is_word (get_or plan.globals i 0) ≡ true
  global i lt = AllPass-from_list_all is_word plan.globals (ok.words).globals i 0 (let e = (ok.words).four in omega arith)

  a_registers : AreRegisters (a_at_start plan)
  a_registers =
      are_registers (a_at_start plan) refl
      (rw (global 0 (omega arith), global 1 (omega arith), global 2 (omega arith), global 3 (omega arith), lt-ltb plan.sp (2 ^ 32) (ok.words).sp) refl)

  first_lt : first_link plan < 2 ^ 20
  first_lt = let some = (ok.areas).some in let lt = link_lt ok 0 (omega arith) in omega arith

  limit_lt : first_link plan + (plan.areas - plan.reserve) < 2 ^ 20
  limit_lt = let some = (ok.areas).some in let r = (ok.areas).reserved in link_lt ok (plan.areas - plan.reserve) (omega arith)

  is_machine : IsMachine (state_of plan image.entry (psw_at_start plan.start_is) (first_link plan) mem)
  is_machine = record {
    d = are_registers _ refl refl;
    a = a_registers;
    pc = fits_entry;
    psw = psw_lt plan.start_is;
    pcxi = lit< tt;
    fcx = (let lt = first_lt in omega arith);
    lcx = (let lt = limit_lt in omega arith);
    ccpn = (ok.words).ccpn;
    biv = (ok.words).biv;
    btv = (ok.words).btv;
    isp = (ok.words).isp;
    bytes = memory.bytes;
  }

  starts : Starts image plan (state_of plan image.entry (psw_at_start plan.start_is) (first_link plan) mem)
  starts = record {
    machine = is_machine;
    memory = memory.memory;
    rom = memory.holds;
    linked = memory.linked;
    fcx = refl;
    lcx = refl;
    pcxi = refl;
    pc = refl;
    sp = refl;
    globals = four plan.globals (ok.words).four;
    biv = refl;
    btv = refl;
    isp = refl;
    ie = refl;
    ccpn = refl;
    is = psw_is plan.start_is;
    io = psw_io plan.start_is;
    end = refl;
    core = refl;
  }

  in_zeros : IsZeroFilledStart image plan (state_of plan image.entry (psw_at_start plan.start_is) (first_link plan) mem)
  in_zeros = record { starts = starts; d = refl; a = refl; psw = refl; ram = memory.ram; rom = memory.rom; words = memory.words }

-- a state with these words
pub starts_in_zeros : (image : ImageData) (plan : PlanData) (mem : Memory) (entry psw first : ℕ) → IsPlan plan → IsStartMemory image plan mem → entry < 2 ^ 32 →
    entry ≡ image.entry → psw ≡ psw_at_start plan.start_is → first ≡ first_link plan → IsZeroFilledStart image plan (state_of plan entry psw first mem)
starts_in_zeros image plan mem entry psw first ok memory small e p f =
    subst (λ x. IsZeroFilledStart image plan (state_of plan x psw first mem)) (sym e)
    (subst (λ x. IsZeroFilledStart image plan (state_of plan image.entry x first mem)) (sym p)
    (subst (λ x. IsZeroFilledStart image plan (state_of plan image.entry (psw_at_start plan.start_is) x mem)) (sym f)
    (in_zeros image plan mem ok memory (let lt : image.entry < 2 ^ 32 = omega arith in lt))))
