-- The guard laws.
use Rattle.std.proofs.Common.{◌≡◌, ℕ, zero, suc, ◌+◌, ◌-◌, ◌*◌, ◌/◌, ◌%◌, ◌^◌, ◌<◌, ◌≤◌, ◌⊎◌, inl, inr, Bool, true, false, cond, List, [], ◌∷◌, ◌++◌, length, map, get_or, slice_get, Some, refl, sym, ap, ◌∙◌, subst, arith, append_assoc, add-one, nat_le, ◌||◌}
use Rattle.std.specs.List.{list_all, slice_index_or}
use Rattle.std.proofs.lemmas.Bool.{cases_lt, and_parts, lt-ltb, le-ltb, leb-true, eq-eqb, eqb-true}
use Rattle.std.proofs.lemmas.List.{length-append}
use Rattle.csa_chain.specs.MemoryBytes.{word_at}
use Rattle.csa_chain.specs.Chain.{link_in, area_word}
use Rattle.csa_chain.specs.ContextWords.{pcxi_word_of, ul_of}
use Rattle.tcd_base.specs.declared.range.Range.{Range}
use Rattle.tcd_base.specs.declared.core_version.Core.{Core}
use Rattle.tcd_base.specs.declared.core_version.Core.TheVariants.{V13, V16}
use Rattle.tcd_base.specs.Ranges.{IsInOneRange}
use Rattle.tcd_plan.specs.declared.plans.Device.{Device}
use Rattle.tcd_plan.specs.PlanData.{are_ranges_disjoint, are_all_ranges_disjoint, areas_range}
use Rattle.tcd_plan.proofs.ApartLaws.{all_apart-behind, all_apart-front}
use Rattle.tc_machine.specs.PlanAreas.{first_link, area_link_or_zero}
use Rattle.tc_machine.specs.Machine.{is_interrupt_stack_used}
use Rattle.tc_machine.proofs.PlanLaws.{link_lt}
use Rattle.task_chains.specs.declared.task_lists.Task.{Task}
use Rattle.tcd_plan.specs.Cutting.{range_outside, ranges_outside}
use Rattle.tcd_plan.proofs.CutLaws.{two_left, one_left}
use Rattle.task_chains.specs.TaskStarts.{task_upper_area, task_lower_area, areas_held_at_start, IsTaskReady}
use Rattle.task_chains.specs.TaskGuardLaws.{EquationsMakeTaskReady, EquationsMakeTasksFit, EquationsMakeTasksStart}
use Rattle.task_chains.proofs.DeviceLaws.{length-devices}

-- ---- a task before its first turn
task_is : (list : List Task) (u : ℕ) (t d : Task) → slice_get list u ≡ Some t → slice_index_or list u d ≡ t
task_is [] zero t d e = cc
task_is [] (suc u) t d e = cc
task_is (x ∷ xs) zero t d e = cc
task_is (x ∷ xs) (suc u) t d e = task_is xs u t d e

ul_is : (core : Core) (word : ℕ) → (core ≡ V13 → word / 2 ^ 22 % 2 ≡ 1) → (core ≡ V16 → word / 2 ^ 20 % 2 ≡ 1) → ul_of core word ≡ true
ul_is V13 word first second = eq-eqb (word / 2 ^ 22 % 2) 1 (first refl)
ul_is V16 word first second = eq-eqb (word / 2 ^ 20 % 2) 1 (second refl)

bare_word : (core : Core) (link : ℕ) → link ≡ pcxi_word_of core 0 false false link
bare_word V13 link = omega arith
bare_word V16 link = omega arith

not_is : (psw : ℕ) → psw / 2 ^ 9 % 8 ≡ 4 → is_interrupt_stack_used psw ≡ false
not_is psw e = by_test (is_interrupt_stack_used psw) refl
  where
    by_test : (t : Bool) → is_interrupt_stack_used psw ≡ t → t ≡ false
    by_test false h = refl
    by_test true h = absurd (let one = eqb-true (psw / 2 ^ 9 % 2) 1 h in omega arith)

pub every_ready : EquationsMakeTaskReady
every_ready core plan switch block list mem i t there ends psw sp link first second entry word =
    let same : 2 * (i + 1 - 1) ≡ 2 * i = omega arith in
    let is = task_is list (i + 1) t (record { entry = 0; sp = 0 }) there in
    let up : task_upper_area plan (i + 1) ≡ first_link plan + 2 * i = ap (λ k. first_link plan + k) same in
    let down : task_lower_area plan (i + 1) ≡ first_link plan + (2 * i + 1) = ap (λ k. first_link plan + (k + 1)) same in
    record {
      ends = ap (λ l. area_word mem l 0) up ∙ ends;
      io = ap (λ l. area_word mem l 1 / 2 ^ 10 % 4) up ∙ (omega arith);
      is = ap (λ l. is_interrupt_stack_used (area_word mem l 1)) up ∙ not_is _ psw;
      sp = ap (λ l. area_word mem l 2) up ∙ sp ∙ ap (λ (x : Task). x.sp) (sym is);
      above = ap (λ l. link_in (area_word mem l 0)) down ∙ link ∙ sym up;
      ul = ap (λ l. ul_of core (area_word mem l 0)) down ∙ ul_is core _ first second;
      entry = ap (λ l. area_word mem l 1) down ∙ entry ∙ ap (λ (x : Task). x.entry) (sym is);
      word = word ∙ sym down ∙ bare_word core (task_lower_area plan (i + 1));
    }

-- ---- what fits a plan
or_cases : (a b : Bool) → (a || b) ≡ true → (a ≡ true) ⊎ (b ≡ true)
or_cases true b e = inl refl
or_cases false b e = inr e

module _ (x n : ℕ) where
  -- ranges that share no byte with a range that has the bytes are below them or above
  away_front : (r s : Range) → r.at ≤ x → x + n ≤ r.at + r.len → are_ranges_disjoint r s ≡ true → (s.at + s.len ≤ x) ⊎ (x + n ≤ s.at)
  away_front r s low high apart = elim (or_cases (nat_le (r.at + r.len) s.at) (nat_le (s.at + s.len) r.at) apart) [
    | inl above ↦ inr (let le = leb-true (r.at + r.len) s.at above in omega arith)
    | inr below ↦ inl (let le = leb-true (s.at + s.len) r.at below in omega arith)
  ]

  away_behind : (r s : Range) → r.at ≤ x → x + n ≤ r.at + r.len → are_ranges_disjoint s r ≡ true → (s.at + s.len ≤ x) ⊎ (x + n ≤ s.at)
  away_behind r s low high apart = elim (or_cases (nat_le (s.at + s.len) r.at) (nat_le (r.at + r.len) s.at) apart) [
    | inl below ↦ inl (let le = leb-true (s.at + s.len) r.at below in omega arith)
    | inr above ↦ inr (let le = leb-true (r.at + r.len) s.at above in omega arith)
  ]

  -- the number of parts that are left of one range and of others
  left_step : (s : Range) (rs : List Range) → length (ranges_outside x n (s ∷ rs)) ≡ length (range_outside x n s) + length (ranges_outside x n rs)
  left_step s rs = length-append (range_outside x n s) (ranges_outside x n rs)

  others_left : (r : Range) (rs : List Range) → r.at ≤ x → x + n ≤ r.at + r.len → list_all (are_ranges_disjoint r) rs ≡ true → length (ranges_outside x n rs) ≤ length rs
  others_left r [] low high apart = omega arith
  others_left r (s ∷ rs) low high apart =
      let parts = and_parts (are_ranges_disjoint r s) (list_all (are_ranges_disjoint r) rs) apart in
      omega (arith, one_left x n s (away_front r s low high parts.0), others_left r rs low high parts.1, left_step s rs)

  in_list : (s r : Range) (rs : List Range) (k : ℕ) → k < length rs → get_or rs k r ≡ r → list_all (are_ranges_disjoint s) rs ≡ true → are_ranges_disjoint s r ≡ true
  in_list s r [] k lt at all = absurd (omega arith)
  in_list s r (z ∷ zs) zero lt at all = ap (are_ranges_disjoint s) (sym at) ∙ (and_parts (are_ranges_disjoint s z) (list_all (are_ranges_disjoint s) zs) all).0
  in_list s r (z ∷ zs) (suc k) lt at all = in_list s r zs k (omega arith) at (and_parts (are_ranges_disjoint s z) (list_all (are_ranges_disjoint s) zs) all).1

  left_all : (rs : List Range) (r : Range) (k : ℕ) → r.at ≤ x → x + n ≤ r.at + r.len → k < length rs → get_or rs k r ≡ r → are_all_ranges_disjoint rs ≡ true → length (ranges_outside x n rs) ≤ length rs + 1
  left_all [] r k low high lt at apart = absurd (omega arith)
  left_all (s ∷ rs) r zero low high lt at apart =
      let parts = and_parts (list_all (are_ranges_disjoint s) rs) (are_all_ranges_disjoint rs) apart in
      let two = two_left x n s in
      omega (arith, others_left s rs (subst (λ (z : Range). z.at ≤ x) (sym at) low) (subst (λ (z : Range). x + n ≤ z.at + z.len) (sym at) high) parts.0, left_step s rs)
  left_all (s ∷ rs) r (suc k) low high lt at apart =
      let parts = and_parts (list_all (are_ranges_disjoint s) rs) (are_all_ranges_disjoint rs) apart in
      let one = one_left x n s (away_behind r s low high (in_list s r rs k (omega arith) at parts.0)) in
      let rest = left_all rs r k low high (omega arith) at parts.1 in
      omega (arith, left_step s rs)

  in_one_of : (rs : List Range) (r : Range) (k : ℕ) → r.at ≤ x → x + n ≤ r.at + r.len → k < length rs → get_or rs k r ≡ r → IsInOneRange x n rs
  in_one_of [] r k low high lt at = absurd (omega arith)
  in_one_of (s ∷ rs) r zero low high lt at = inl (subst (λ (z : Range). z.at ≤ x) (sym at) low, subst (λ (z : Range). x + n ≤ z.at + z.len) (sym at) high)
  in_one_of (s ∷ rs) r (suc k) low high lt at = inr (in_one_of rs r k low high (omega arith) at)

pub every_fit : EquationsMakeTasksFit
every_fit plan switch block list r ok has low high few own =
    let n = 4 * length list + 4 in
    let rest = map (λ (d : Device). d.range) plan.devices ++ areas_range plan ∷ [] in
    let all : are_all_ranges_disjoint (plan.rom ++ (plan.ram ++ rest)) ≡ true = subst (λ l. are_all_ranges_disjoint l ≡ true) (append_assoc (plan.rom ++ plan.ram) (map (λ (d : Device). d.range) plan.devices) (areas_range plan ∷ []) ∙ append_assoc plan.rom plan.ram rest) ok.apart in
    let left = left_all block n plan.ram r has.0 low high has.1 has.2 (all_apart-front plan.ram rest (all_apart-behind plan.rom (plan.ram ++ rest) all)) in
    record { in_ram = in_one_of block n plan.ram r has.0 low high has.1 has.2; room = omega (arith, length-devices plan.devices (ranges_outside block n plan.ram)); own_stack = own }

-- ---- start states
pub every_tasks_start : EquationsMakeTasksStart
every_tasks_start image plan switch block t ts d a psw fcx mem ok are d_count d_words a_count a_words psw_word small mapped rom room current ready next last more none sp globals is io =
    let first : first_link plan < 2 ^ 20 = let some = ok.areas.some in let lt = link_lt ok 0 (omega arith) in omega arith in
    let limit : first_link plan + (plan.areas - plan.reserve) < 2 ^ 20 = let some = ok.areas.some in let r = ok.areas.reserved in link_lt ok (plan.areas - plan.reserve) (omega arith) in
    let held : areas_held_at_start (record { switch = switch; block = block; list = t ∷ ts }) ≡ 2 * length ts = omega arith in
    record {
      machine = record {
        d = record { count = d_count; words = d_words };
        a = record { count = a_count; words = a_words };
        pc = (are.words 0 (record { entry = 0; sp = 0 }) (omega arith)).0;
        psw = psw_word;
        pcxi = omega arith;
        fcx = fcx_word first limit;
        lcx = omega arith;
        ccpn = ok.words.ccpn;
        biv = ok.words.biv;
        btv = ok.words.btv;
        isp = ok.words.isp;
        bytes = small;
      };
      memory = mapped;
      rom = rom;
      room = subst (λ k. k ≤ plan.areas) (sym held) room;
      first = subst (λ k. word_at mem (block + 4 * k) ≡ 0) (add-one (length ts)) current;
      ready = λ u some lt. ready_at u some lt;
      linked = λ i from lt. linked_up i (subst (λ k. k ≤ i) held from) lt;
      fcx = fcx_is ∙ ap (λ k. area_link_or_zero plan k) (sym held);
      lcx = refl;
      pcxi = refl;
      pc = refl;
      sp = sp;
      globals = globals;
      biv = refl;
      btv = refl;
      isp = refl;
      ie = refl;
      ccpn = refl;
      is = is;
      io = io;
      end = refl;
      core = refl;
    }
  where
    fcx_is : fcx ≡ area_link_or_zero plan (2 * length ts)
    fcx_is =
        elim (cases_lt (2 * length ts) plan.areas) [
          | inl lt ↦ more lt ∙ sym (ap (λ t. cond t (first_link plan + 2 * length ts) 0) (lt-ltb (2 * length ts) plan.areas lt))
          | inr past ↦ none (omega arith) ∙ sym (ap (λ t. cond t (first_link plan + 2 * length ts) 0) (le-ltb (2 * length ts) plan.areas past))
        ]

    fcx_word : first_link plan < 2 ^ 20 → first_link plan + (plan.areas - plan.reserve) < 2 ^ 20 → fcx < 2 ^ 32
    fcx_word first limit =
        elim (cases_lt (2 * length ts) plan.areas) [
          | inl lt ↦ let is = more lt in let small = link_lt ok (2 * length ts) lt in omega arith
          | inr past ↦ let is = none (omega arith) in omega arith
        ]

    ready_at : (u : ℕ) → 1 ≤ u → u < suc (length ts) → IsTaskReady plan.core plan (record { switch = switch; block = block; list = t ∷ ts }) mem u
    ready_at zero some lt = absurd (omega arith)
    ready_at (suc i) some lt = subst (IsTaskReady plan.core plan (record { switch = switch; block = block; list = t ∷ ts }) mem) (add-one i) (ready i (omega arith))

    linked_up : (i : ℕ) → 2 * length ts ≤ i → i < plan.areas → area_word mem (first_link plan + i) 0 ≡ area_link_or_zero plan (i + 1)
    linked_up i from lt =
        elim (cases_lt (i + 1) plan.areas) [
          | inl less ↦ next i from less ∙ sym (ap (λ t. cond t (first_link plan + (i + 1)) 0) (lt-ltb (i + 1) plan.areas less))
          | inr end ↦ last i from (omega arith) ∙ sym (ap (λ t. cond t (first_link plan + (i + 1)) 0) (le-ltb (i + 1) plan.areas end))
        ]
