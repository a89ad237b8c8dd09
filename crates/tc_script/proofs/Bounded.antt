-- What a script answers is within the bounds of the peripheral that is asked.
use Rattle.std.proofs.Common.{◌≡◌, ℕ, zero, suc, ◌+◌, ◌≤◌, inl, inr, true, List, [], ◌∷◌, ◌++◌, map, slice_get, slice_index_or, Some, refl, sym, subst, ◌∙◌, arith}
use Rattle.std.specs.Prelude.{nat_le}
use Rattle.std.specs.List.{list_all}
use Rattle.std.proofs.lemmas.Bool.{and_parts, and_from, or_cases, leb-true, cases_Bool, cond-true, cond-false}
use Rattle.std.proofs.lemmas.List.Folds.{list_all-append}
use Rattle.std.proofs.lemmas.Option.{slice_get-get_or}
use Rattle.tcd_base.specs.declared.range.Range.{Range}
use Rattle.tcd_plan.specs.declared.plans.Device.{Device}
use Rattle.tcd_plan.specs.PlanData.{PlanData, IsPlan, are_ranges_disjoint, are_all_ranges_disjoint, areas_range}
use Rattle.tcd_base.specs.Ranges.{IsWithinRange, is_within_range}
use Rattle.tcd_plan.proofs.ApartLaws.{all_apart-behind}
use Rattle.tc_script.specs.declared.scripts.AnswerRange.{AnswerRange}
use Rattle.tc_script.specs.ScriptsFitPlans.{AreAnswerBoundsInside}
use Rattle.tc_script.specs.Ports.{AnswersWithinDeviceBounds, device_answer_at, device_answer}
use Rattle.tc_script.specs.DrivenRuns.{DeviceAnswers}
use Rattle.tcd_base.proofs.RangeLaws.{within_true, true_within}
use Rattle.tc_script.proofs.Only.{AnswersBy}

abbrev Lies : ℕ → Device → Type 0
Lies w d = (d.lo ≤ w) × (w ≤ d.hi)

answer_lies : (b : AnswerRange) (t : ℕ) → b.lo ≤ b.hi → (b.lo ≤ device_answer b t) × (device_answer b t ≤ b.hi)
answer_lies b t ordered = (omega arith, omega arith)

abbrev ranges_of : List Device → List Range
ranges_of ds = map (λ d. d.range) ds

apart_at : (r : Range) (ds : List Device) (k : ℕ) (d : Device) → list_all (are_ranges_disjoint r) (ranges_of ds) ≡ true → slice_get ds k ≡ Some d → are_ranges_disjoint r d.range ≡ true
apart_at r [] k d all here = cc
apart_at r (e ∷ ds) zero d all here = let same : e ≡ d = cc in subst (λ f. are_ranges_disjoint r f.range ≡ true) same (and_parts (are_ranges_disjoint r e.range) (list_all (are_ranges_disjoint r) (ranges_of ds)) all).0
apart_at r (e ∷ ds) (suc k) d all here = apart_at r ds k d (and_parts (are_ranges_disjoint r e.range) (list_all (are_ranges_disjoint r) (ranges_of ds)) all).1 here

no_both : (x : ℕ) (r s : Range) → are_ranges_disjoint r s ≡ true → IsWithinRange x 1 r → IsWithinRange x 1 s → ⊥
no_both x r s apart in_r in_s = elim (or_cases (nat_le (r.at + r.len) s.at) (nat_le (s.at + s.len) r.at) apart) [
  | inl below ↦ let le = leb-true (r.at + r.len) s.at below in omega (arith, le, in_r.0, in_r.1, in_s.0, in_s.1)
  | inr above ↦ let le = leb-true (s.at + s.len) r.at above in omega (arith, le, in_r.0, in_r.1, in_s.0, in_s.1)
]

lies_at : (x t : ℕ) (ds : List Device) (bs : List AnswerRange) (k : ℕ) (d : Device) → AreAnswerBoundsInside ds bs → are_all_ranges_disjoint (ranges_of ds) ≡ true → slice_get ds k ≡ Some d → IsWithinRange x 1 d.range → Lies (device_answer_at ds bs x t) d
lies_at x t [] bs k d inside apart here has = cc
lies_at x t (e ∷ ds) [] k d inside apart here has = absurd inside
lies_at x t (e ∷ ds) (b ∷ bs) zero d inside apart here has =
    let same : e ≡ d = cc in
    let holds = true_within x 1 e.range (subst (λ f. IsWithinRange x 1 f.range) (sym same) has) in
    let is = cond-true (is_within_range x 1 e.range) (device_answer b t) (device_answer_at ds bs x t) holds in
    let lies = answer_lies b t inside.0.1 in
    subst (λ f. Lies (device_answer_at (e ∷ ds) (b ∷ bs) x t) f) same (subst (λ w. Lies w e) (sym is) (omega (arith, lies.0, inside.0.0), omega (arith, lies.1, inside.0.2)))
lies_at x t (e ∷ ds) (b ∷ bs) (suc k) d inside apart here has =
    let parts = and_parts (list_all (are_ranges_disjoint e.range) (ranges_of ds)) (are_all_ranges_disjoint (ranges_of ds)) apart in
    elim (cases_Bool (is_within_range x 1 e.range)) [
      | inl first ↦ absurd (no_both x e.range d.range (apart_at e.range ds k d parts.0 here) (within_true x 1 e.range first) has)
      | inr other ↦ subst (λ w. Lies w d) (sym (cond-false (is_within_range x 1 e.range) (device_answer b t) (device_answer_at ds bs x t) other)) (lies_at x t ds bs k d inside.1 parts.1 here has)
    ]

all_apart-front : (rs ss : List Range) → are_all_ranges_disjoint (rs ++ ss) ≡ true → are_all_ranges_disjoint rs ≡ true
all_apart-front [] ss all = refl
all_apart-front (r ∷ rs) ss all =
    let parts = and_parts (list_all (are_ranges_disjoint r) (rs ++ ss)) (are_all_ranges_disjoint (rs ++ ss)) all in
    let front = and_parts (list_all (are_ranges_disjoint r) rs) (list_all (are_ranges_disjoint r) ss) (sym (list_all-append (are_ranges_disjoint r) rs ss) ∙ parts.0) in
    and_from (list_all (are_ranges_disjoint r) rs) (are_all_ranges_disjoint rs) front.0 (all_apart-front rs ss parts.1)

devices_apart : (plan : PlanData) → IsPlan plan → are_all_ranges_disjoint (ranges_of plan.devices) ≡ true
devices_apart plan ok =
    all_apart-behind (plan.rom ++ plan.ram) (ranges_of plan.devices) (all_apart-front (plan.rom ++ plan.ram ++ ranges_of plan.devices) (areas_range plan ∷ []) ok.apart)

-- answers of a script that fits the plan
pub bounded_by : (plan : PlanData) (bounds : List AnswerRange) (answers : DeviceAnswers) → IsPlan plan → AreAnswerBoundsInside plan.devices bounds → AnswersBy plan.devices bounds answers → AnswersWithinDeviceBounds answers plan.devices
bounded_by plan bounds answers ok inside by = λ k d lt addr t w has early small gives.
    subst (λ v. Lies v (slice_index_or plan.devices k d)) (sym (by addr t w gives))
    (lies_at addr t plan.devices bounds k (slice_index_or plan.devices k d) inside (devices_apart plan ok) (slice_get-get_or plan.devices k d lt) has)
