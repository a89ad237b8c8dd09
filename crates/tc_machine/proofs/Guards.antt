-- The guard laws.
use Rattle.std.proofs.Common.{◌≡◌, ℕ, zero, suc, ◌+◌, ◌-◌, ◌^◌, ◌<◌, ◌≤◌, ◌⊎◌, inl, inr, Bool, true, false, cond, ◌&&◌, ◌==◌, List, [], ◌∷◌, length, map, get_or, slice_get, Option, Some, None, refl, sym, ap, subst, ◌∙◌, arith, nat_lt}
use Rattle.std.specs.Prelude.{not, IfSome}
use Rattle.std.proofs.lemmas.Bool.{cases_lt, lt-ltb, le-ltb, ltb-false, eq-eqb}
use Rattle.std.proofs.lemmas.Option.{slice_get-get_or}
use Rattle.csa_chain.specs.MemoryBytes.{Memory}
use Rattle.csa_chain.specs.Chain.{link_address, area_word}
use Rattle.csa_chain.proofs.ChainLaws.{Links, Links-chain_within, are_mapped_each, reverse_onto, reverse-append_onto}
use Rattle.elf_image.specs.Images.{ImageData}
use Rattle.tcd_base.specs.declared.range.Range.{Range}
use Rattle.tcd_base.specs.Ranges.{IsInOneRange}
use Rattle.tcd_plan.specs.declared.plans.Device.{Device}
use Rattle.tcd_plan.specs.PlanData.{PlanData}
use Rattle.tcd_plan.specs.MappedAddresses.{IsInDevice, MayAnswerAt, IsStoreInRange}
use Rattle.tc_machine.specs.declared.events.Event.{Event}
use Rattle.tc_machine.specs.declared.state.Machine.{Machine}
use Rattle.tc_machine.specs.PlanAreas.{first_link, plan_areas}
use Rattle.tc_machine.specs.Instructions.{access_address}
use Rattle.tc_machine.specs.Stepping.{load_at_pc, run, stored}
use Rattle.tc_machine.specs.Safe.{Fits, AllFit, IsSafeAt}
use Rattle.tc_machine.specs.MachineLaws.{EquationsImplyEventFits, first_events, EquationsImplyRunFits, EquationsImplyStartState, IsAreaWalk, LiesInRange, MeetsSafetyEquations, SafeImpliesEquations, StoreInstructionStores}
use Rattle.tc_machine.proofs.PlanLaws.{link_lt, length-links_up, length-reverse_onto, get_or-links_up}
use Rattle.tc_machine.proofs.Steps.{stored-is}

-- ---- events
not_taken : (ie : Bool) (ccpn irq : ℕ) → (ie && nat_lt ccpn irq) ≡ false → ie ≡ true → irq ≤ ccpn
not_taken true ccpn irq free on = ltb-false ccpn irq free
not_taken false ccpn irq free on = cc

answers_at : (ds : List Device) (x input : ℕ) → ((k : ℕ) (d : Device) → slice_get ds k ≡ Some d → d.range.at ≤ x → x + 4 ≤ d.range.at + d.range.len → (d.lo ≤ input) × (input ≤ d.hi)) → MayAnswerAt x input ds
answers_at ds x input h k d lt within = h k (get_or ds k d) (slice_get-get_or ds k d lt) within.0 within.1

pub every_event : EquationsImplyEventFits
every_event plan m irq input status aln stated small byte answers = record {
  irq = stated;
  input = small;
  status = byte;
  answers = λ free. by_load (not_taken m.ie m.ccpn irq free) (load_at_pc m) refl;
}
  where
    by_load : (m.ie ≡ true → irq ≤ m.ccpn) → (o : Option (ℕ × ℕ)) → load_at_pc m ≡ o → IfSome o (λ l. l.1 ≡ 4 → MayAnswerAt l.0 input plan.devices)
    by_load low None e = tt
    by_load low (Some l) e = λ four. answers_at plan.devices l.0 input (λ k d. answers low l.0 k d (e ∙ ap (λ (n : ℕ). let o : Option (ℕ × ℕ) = Some (l.0, n) in o) four))

pub every_run : EquationsImplyRunFits
every_run plan states events zero walk fits = (tt, refl)
every_run plan states events (suc n) walk fits =
    let es = first_events n (λ k. events (suc k)) in
    let rest = every_run plan (λ k. states (suc k)) (λ k. events (suc k)) n (λ k. walk (suc k)) (λ k lt. fits (suc k) (omega arith)) in (
      (fits 0 (omega arith), subst (λ (s : Machine). AllFit plan s es) (walk 0) rest.0),
      subst (λ (s : Machine). run s es ≡ states (suc n)) (walk 0) rest.1,
    )

-- ---- start states
pub every_start : EquationsImplyStartState
every_start image plan d a psw mem whole ok d_count d_words a_count a_words psw_word small mapped rom next last sp globals is io =
    let areas = ok.areas in
    let first : first_link plan < 2 ^ 20 = let some = areas.some in let lt = link_lt ok 0 (omega arith) in omega arith in
    let limit : first_link plan + (plan.areas - plan.reserve) < 2 ^ 20 = let some = areas.some in let r = areas.reserved in link_lt ok (plan.areas - plan.reserve) (omega arith) in
    record {
      machine = record {
        d = record { count = d_count; words = d_words };
        a = record { count = a_count; words = a_words };
        pc = whole.entry;
        psw = psw_word;
        pcxi = omega arith;
        fcx = omega arith;
        lcx = omega arith;
        ccpn = ok.words.ccpn;
        biv = ok.words.biv;
        btv = ok.words.btv;
        isp = ok.words.isp;
        bytes = small;
      };
      memory = mapped;
      rom = rom;
      linked = λ i lt. linked_up i lt;
      fcx = refl;
      lcx = refl;
      pcxi = refl;
      pc = refl;
      sp = sp;
      globals = globals;
      biv = refl;
      btv = refl;
      isp = refl;
      ie = refl;
      ccpn = refl;
      is = is;
      io = io;
      end = refl;
      core = refl;
    }
  where
    linked_up : (i : ℕ) → i < plan.areas → area_word mem (first_link plan + i) 0 ≡ cond (nat_lt (i + 1) plan.areas) (first_link plan + (i + 1)) 0
    linked_up i lt =
        elim (cases_lt (i + 1) plan.areas) [
          | inl more ↦ next i more ∙ sym (ap (λ t. cond t (first_link plan + (i + 1)) 0) (lt-ltb (i + 1) plan.areas more))
          | inr end ↦ last i (omega arith) ∙ sym (ap (λ t. cond t (first_link plan + (i + 1)) 0) (le-ltb (i + 1) plan.areas end))
        ]

-- ---- what is safe
walk_of : (mem : Memory) (word : ℕ) (ls : List ℕ) → Links mem word ls → IsAreaWalk mem word ls
walk_of mem word [] h = h
walk_of mem word (l ∷ ls) h = (h.0, h.1, λ i lt. are_mapped_each mem (link_address l) 64 h.2 i lt, walk_of mem (area_word mem l 0) ls h.3)

lies_more : (r : Range) (rs : List Range) (x n : ℕ) → LiesInRange rs x n → LiesInRange (r ∷ rs) x n
lies_more r rs x n h = record { place = suc h.place; range = h.range; there = h.there; from = h.from; to = h.to }

lies_in : (rs : List Range) (x n : ℕ) → IsInOneRange x n rs → LiesInRange rs x n
lies_in [] x n h = absurd h
lies_in (r ∷ rs) x n (inl h) = record { place = 0; range = r; there = refl; from = h.0; to = h.1 }
lies_in (r ∷ rs) x n (inr h) = lies_more r rs x n (lies_in rs x n h)

lies_in_device : (ds : List Device) (x n : ℕ) → IsInDevice x n ds → LiesInRange (map (λ d. d.range) ds) x n
lies_in_device [] x n h = absurd h
lies_in_device (d ∷ ds) x n (inl h) = record { place = 0; range = d.range; there = refl; from = h.0; to = h.1 }
lies_in_device (d ∷ ds) x n (inr h) = lies_more d.range (map (λ d. d.range) ds) x n (lies_in_device ds x n h)

store_lies : (plan : PlanData) (o : Option (ℕ × ℕ)) → IfSome o (IsStoreInRange plan) → (x n : ℕ) → o ≡ Some (x, n) → (x + n ≤ 2 ^ 32) × (LiesInRange plan.ram x n ⊎ LiesInRange (map (λ d. d.range) plan.devices) x n)
store_lies plan o h x n e =
    let at : IsStoreInRange plan (x, n) = subst (λ (p : Option (ℕ × ℕ)). IfSome p (IsStoreInRange plan)) e h in
    (at.0, elim at.1 [ inl ram ↦ inl (lies_in plan.ram x n ram) | inr device ↦ inr (lies_in_device plan.devices x n device) ])

five_parts : (image : ImageData) (plan : PlanData) (most : ℕ) (m : Machine) (e : Event) → IsSafeAt image plan most m e → MeetsSafetyEquations image plan most m e
five_parts image plan most m e at =
    let chains = at.chains in
    let spells = at.code_in_rom.spells in
    let all : reverse_onto chains.used chains.free ≡ plan_areas plan = sym (reverse-append_onto chains.used chains.free) ∙ chains.areas_partition in
    record {
      running = at.running;
      used = chains.used;
      free = chains.free;
      used_walk = walk_of m.mem m.pcxi chains.used (Links-chain_within m.mem 4096 m.pcxi chains.used chains.used_chain).0;
      free_walk = walk_of m.mem m.fcx chains.free (Links-chain_within m.mem 4096 m.fcx chains.free chains.free_chain).0;
      count = sym (length-reverse_onto chains.used chains.free) ∙ ap length all ∙ length-links_up (first_link plan) plan.areas;
      places = λ k lt. ap (λ (xs : List ℕ). get_or xs k 0) chains.areas_partition ∙ get_or-links_up (first_link plan) plan.areas k lt;
      within_need = chains.within_need;
      code = at.code_in_rom.bytes;
      inst = at.code_in_rom.inst;
      spelled = spells.spelled;
      in_rom = lies_in plan.rom m.pc (length at.code_in_rom.bytes) spells.in_rom;
      held = spells.held;
      there = at.code_in_rom.there;
      store = store_lies plan (stored m e) at.stores_in_range;
    }

pub safe_says : SafeImpliesEquations
safe_says image plan most states events n e safe walk starts fits last =
    let r = every_run plan states events n walk fits in
    let here = safe (states 0) (first_events n events) e starts r.0 (subst (λ (m : Machine). Fits plan m e) (sym r.1) last) in
    five_parts image plan most (states n) e (subst (λ (m : Machine). IsSafeAt image plan most m e) r.1 here)

-- ---- stores
no_trap : (aln : Bool) (rest : ℕ) → (aln ≡ true → rest ≡ 0) → (aln && not (rest == 0)) ≡ false
no_trap true rest h = ap not (eq-eqb rest 0 (h refl))
no_trap false rest h = refl

pub stores_told : StoreInstructionStores
stores_told m e src base offset size after n runs free at aligned =
    let x = access_address m base offset after in
    stored-is m e _ runs free at ∙ ap (λ (t : Bool). let o : Option (ℕ × ℕ) = cond t None (Some (x, size)) in o) (no_trap e.aln _ aligned)
