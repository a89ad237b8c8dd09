-- Each state has an event that fits; and if a view saves a context, there is room.
use Rattle.std.proofs.Common.{◌≡◌, ◌≢◌, ℕ, zero, suc, ◌+◌, ◌-◌, ◌^◌, ◌<◌, ◌≤◌, inl, inr, Bool, true, false, cond, List, [], ◌∷◌, ◌++◌, length, map, Option, Some, None, refl, sym, ap, ◌∙◌, arith, append_assoc, ◌&&◌, nat_le, nat_lt, ◌==◌}
use Rattle.std.proofs.lemmas.Bool.{cases_Bool, and_parts, and_from, le-leb, leb-true, ltb-true, false≢true, eqb-false, cases_lt}
use Rattle.std.specs.Prelude.{All}
use Rattle.std.specs.List.{list_all}
use Rattle.csa_chain.specs.Chain.{link_in, is_area_mapped}
use Rattle.tcd_base.specs.declared.range.Range.{Range}
use Rattle.tcd_plan.specs.declared.plans.Device.{Device}
use Rattle.tcd_plan.specs.PlanData.{PlanData, IsPlan, is_plan_range, is_plan_device, areas_range, are_all_ranges_disjoint}
use Rattle.tc_machine.specs.declared.events.Event.{Event}
use Rattle.tc_machine.specs.declared.events.Cause.{Cause}
use Rattle.tc_machine.specs.declared.events.Cause.TheVariants.{Fcd, Fcu, NoArea}
use Rattle.tc_machine.specs.declared.events.End.TheVariants.{Running, Dead}
use Rattle.tc_machine.specs.declared.state.Machine.{Machine}
use Rattle.tc_machine.specs.Machine.{dead_machine}
use Rattle.tc_machine.specs.SavesAndRestores.{with_context_saved, save}
use Rattle.tc_machine.specs.Stepping.{load_at_pc}
use Rattle.tcd_base.specs.Ranges.{IsWithinRange, IsInOneRange}
use Rattle.tc_machine.specs.PlanAreas.{first_link}
use Rattle.tc_machine.specs.Safe.{Fits}
use Rattle.tcd_plan.specs.MappedAddresses.{MayAnswerAt, MayAnswerLoad}
use Rattle.tc_machine.proofs.PlanLaws.{place_of}
use Rattle.tcd_base.proofs.RangeLaws.{IsInOne-front}
use Rattle.tcd_plan.proofs.ApartLaws.{all_apart-before, all_apart-behind}
use Rattle.tc_machine.proofs.Areas.{Areas}

-- ---- an answer of the peripheral that has the word
abbrev has_word : Device → ℕ → Bool
has_word d x = nat_le (d.range).at x && nat_le (x + 4) ((d.range).at + (d.range).len)

abbrev answer : List Device → ℕ → ℕ
answer [] x = 0
answer (d ∷ ds) x = cond (has_word d x) d.lo (answer ds x)

All-cons : {X : Type 0} (P : X → Type 0) (x : X) (xs : List X) → P x → All P xs → All P (x ∷ xs)
All-cons P x xs h hs zero d lt = h
All-cons P x xs h hs (suc i) d lt = hs i d (omega arith)

All-none : {X : Type 0} (P : X → Type 0) → All P []
All-none P i d lt = absurd (omega arith)

-- the bounds of an input, if a peripheral has the word
abbrev Answered : ℕ → ℕ → Device → Type 0
Answered x input d = IsWithinRange x 4 d.range → (d.lo ≤ input) × (input ≤ d.hi)

device_bounds : (d : Device) → is_plan_device d ≡ true → (d.lo ≤ d.hi) × (d.hi < 2 ^ 32)
device_bounds d h =
    let a = and_parts (is_plan_range d.range && nat_le d.lo d.hi) (nat_lt d.hi (2 ^ 32)) h in
    (leb-true d.lo d.hi (and_parts (is_plan_range d.range) (nat_le d.lo d.hi) a.0).1, ltb-true d.hi (2 ^ 32) a.1)

-- if no peripheral of the list has the word, each input fits
none_within : (ds : List Device) (x input : ℕ) → (IsInOneRange x 1 (map (λ (d : Device). d.range) ds) → ⊥) → MayAnswerAt x input ds
none_within [] x input none = All-none (Answered x input)
none_within (d ∷ ds) x input none = All-cons (Answered x input) d ds (λ there. absurd (none (inl (there.0, (let h = there.1 in omega arith))))) (none_within ds x input (λ h. none (inr h)))

-- the peripheral that has the word answers in its bounds, and no other has it
answers : (ds : List Device) (x : ℕ) (rest : List Range) → list_all is_plan_device ds ≡ true → are_all_ranges_disjoint (map (λ (d : Device). d.range) ds ++ rest) ≡ true → MayAnswerAt x (answer ds x) ds × (answer ds x < 2 ^ 32)
answers [] x rest are apart = (All-none (Answered x 0), omega arith)
answers (d ∷ ds) x rest are apart =
    let parts = and_parts (is_plan_device d) (list_all is_plan_device ds) are in
    let bounds = device_bounds d parts.0 in
    let more = answers ds x rest parts.1 (all_apart-behind (d.range ∷ []) (map (λ (d : Device). d.range) ds ++ rest) apart) in
    elim (has_word d x) as (λ t. has_word d x ≡ t → MayAnswerAt x (cond t d.lo (answer ds x)) (d ∷ ds) × (cond t d.lo (answer ds x) < 2 ^ 32)) [
      | true ↦ λ has.
          let low : (d.range).at ≤ x = leb-true (d.range).at x (and_parts _ _ has).0 in
          let high : x + 4 ≤ (d.range).at + (d.range).len = leb-true (x + 4) ((d.range).at + (d.range).len) (and_parts _ _ has).1 in
          let none : IsInOneRange x 1 (map (λ (d : Device). d.range) ds) → ⊥ =
          λ there. all_apart-before x (d.range ∷ []) (map (λ (d : Device). d.range) ds ++ rest) apart (inl (low, omega arith)) (IsInOne-front x 1 (map (λ (d : Device). d.range) ds) rest there)
          in
          let small = bounds.1 in
          (All-cons (Answered x d.lo) d ds (λ within. (omega arith, bounds.0)) (none_within ds x d.lo none), omega arith)
      | false ↦ λ hasnt. (All-cons (Answered x (answer ds x)) d ds (λ within. absurd (false≢true (sym hasnt ∙ and_from _ _ (le-leb _ _ within.0) (le-leb _ _ within.1)))) more.0, more.1)
    ] refl

-- ---- an event for each state
-- the input for a load
input_of : PlanData → Option (ℕ × ℕ) → ℕ
input_of plan None = 0
input_of plan (Some l) = answer plan.devices l.0

some_event : PlanData → Machine → Event
some_event plan m = record { irq = 0; input = input_of plan (load_at_pc m); status = 0; aln = false }

-- without an interrupt, and without a trap of a misaligned access
pub record Quiet (plan : PlanData) (m : Machine) : Type 0 where
  pub event : Event
  pub fits : Fits plan m event
  pub irq : event.irq ≡ 0
  pub aln : event.aln ≡ false

pub quiet : {plan : PlanData} → IsPlan plan → (m : Machine) → Quiet plan m
unfolding some_event input_of
quiet {plan = plan} ok m =
    let apart : are_all_ranges_disjoint (map (λ (d : Device). d.range) plan.devices ++ areas_range plan ∷ []) ≡ true =
    all_apart-behind plan.ram _ (all_apart-behind plan.rom _ (sym (ap are_all_ranges_disjoint (append_assoc (plan.rom ++ plan.ram) (map (λ (d : Device). d.range) plan.devices) (areas_range plan ∷ []) ∙ append_assoc plan.rom plan.ram (map (λ (d : Device). d.range) plan.devices ++ areas_range plan ∷ []))) ∙ ok.apart))
    in
    let by = by_load apart (load_at_pc m) in
    record { event = some_event plan m; fits = record { irq = inl refl; input = by.1; status = omega arith; answers = λ none. by.0 }; irq = refl; aln = refl }
  where
    by_load : are_all_ranges_disjoint (map (λ (d : Device). d.range) plan.devices ++ areas_range plan ∷ []) ≡ true → (o : Option (ℕ × ℕ)) → MayAnswerLoad plan (input_of plan o) o × (input_of plan o < 2 ^ 32)
    by_load apart None = (tt, omega arith)
    by_load apart (Some l) = let a = answers plan.devices l.0 (areas_range plan ∷ []) (ok.ranges).devices apart in (λ four. a.0, a.1)

pub fitting : {plan : PlanData} → IsPlan plan → (m : Machine) → (e : Event) × Fits plan m e
fitting ok m = let q = quiet ok m in (q.event, q.fits)

-- ---- where a save stands, FCX isn't at the limit
running≢dead : (cause : Cause) → Dead cause ≡ Running → ⊥
running≢dead cause e = cc

pub record Saves (m : Machine) : Type 0 where
  pub some : link_in m.fcx ≢ 0
  pub not_last : link_in m.fcx ≢ link_in m.lcx

pub saves_from : (m : Machine) (upper : Bool) → (save m upper).end ≡ Running → Saves m
unfolding save
saves_from m upper e =
    elim (cases_Bool (link_in m.fcx == 0)) [
      | inl none ↦ absurd (running≢dead Fcu (sym (ap (λ t. (cond t (dead_machine Fcu m) (cond (is_area_mapped m.mem (link_in m.fcx)) (cond (link_in m.fcx == link_in m.lcx) (dead_machine Fcd (with_context_saved m upper)) (with_context_saved m upper)) (dead_machine NoArea m))).end) none) ∙ e))
      | inr some ↦
          let e1 = sym (ap (λ t. (cond t (dead_machine Fcu m) (cond (is_area_mapped m.mem (link_in m.fcx)) (cond (link_in m.fcx == link_in m.lcx) (dead_machine Fcd (with_context_saved m upper)) (with_context_saved m upper)) (dead_machine NoArea m))).end) some) ∙ e in
          elim (cases_Bool (is_area_mapped m.mem (link_in m.fcx))) [
            | inr gone ↦ absurd (running≢dead NoArea (sym (ap (λ t. (cond t (cond (link_in m.fcx == link_in m.lcx) (dead_machine Fcd (with_context_saved m upper)) (with_context_saved m upper)) (dead_machine NoArea m)).end) gone) ∙ e1))
            | inl area ↦
                let e2 = sym (ap (λ t. (cond t (cond (link_in m.fcx == link_in m.lcx) (dead_machine Fcd (with_context_saved m upper)) (with_context_saved m upper)) (dead_machine NoArea m)).end) area) ∙ e1 in
                elim (cases_Bool (link_in m.fcx == link_in m.lcx)) [
                  | inl last ↦ absurd (running≢dead Fcd (sym (ap (λ t. (cond t (dead_machine Fcd (with_context_saved m upper)) (with_context_saved m upper)).end) last) ∙ e2))
                  | inr not_last ↦ record { some = eqb-false _ _ some; not_last = eqb-false _ _ not_last }
                ]
          ]
    ]

-- so the chain in use has less than all areas except the reserve
pub room_from : {plan : PlanData} (m : Machine) (upper : Bool) (seen free : List ℕ) → Areas plan m.mem m.fcx m.lcx seen free → length seen ≤ plan.areas - plan.reserve → (save m upper).end ≡ Running → length seen < plan.areas - plan.reserve
room_from {plan = plan} m upper seen [] areas most e = let s = saves_from m upper e in absurd (s.some areas.links)
room_from {plan = plan} m upper seen (f ∷ rest) areas most e =
    let s = saves_from m upper e in
    let place = (place_of seen rest f (first_link plan) plan.areas areas.whole).1 in
    let named = (areas.links).1 in
    let last = areas.lcx_is in
    elim (cases_lt (length seen) (plan.areas - plan.reserve)) [
      | inl lt ↦ lt
      | inr ge ↦ absurd (s.not_last (named ∙ place ∙ (let full : first_link plan + length seen ≡ first_link plan + (plan.areas - plan.reserve) = omega arith in full) ∙ sym last))
    ]
