-- Which accesses stay in range, and the walk along a Span.
use Rattle.std.proofs.Common.{◌≡◌, ℕ, ◌+◌, ◌-◌, ◌*◌, ◌/◌, ◌%◌, ◌^◌, ◌<◌, ◌≤◌, inl, inr, true, ◌&&◌, ◌↔◌, suc, All, get_or, List, [], ◌∷◌, Some, None, refl, sym, subst, arith}
use Rattle.std.specs.List.{find}
use Rattle.std.proofs.lemmas.Bool.{cases_lt, and_parts, and_from, leb-true}
use Rattle.std.proofs.lemmas.Bool.Decides.{nat_tests}
use Rattle.std.proofs.lemmas.List.Elements.{All-from_get_or}
use Rattle.tcd_base.specs.declared.range.Range.{Range}
use Rattle.tcd_plan.specs.declared.plans.Device.{Device}
use Rattle.tcd_plan.specs.PlanData.{PlanData, IsPlan, is_plan_range, is_plan_device}
use Rattle.tcd_plan.specs.MappedAddresses.{IsStoreInRange}
use Rattle.value_domain.specs.declared.values.Val.{Val}
use Rattle.value_domain.specs.declared.values.Val.TheVariants.{Set, Span}
use Rattle.value_domain.specs.Sets.{Among, alignment_log2, IsExtent}
use Rattle.value_domain.specs.Values.{IsMember, IsWellFormed, members, multiples_in_range}
use Rattle.value_domain.proofs.CoverLaws.{step_cases, in_units, from_units, among_range, range_among, among_member, member_among, has_step}
use Rattle.value_domain.proofs.SetLaws.{twos_le}
use Rattle.value_domain.proofs.Loops.{among_get}
use Rattle.store_ranges.specs.Accesses.{IsAccessSize, AreAligned, AreStoresInRange, IsNextStoreAddress, AreStoresInRangeUntil}
use Rattle.store_ranges.proofs.Finds.{found_true, found_all, found_one, found_device, unfound_one, unfound_device}
use Rattle.tcd_base.specs.Ranges.{is_within_range}
use Rattle.tcd_base.proofs.RangeLaws.{within_true, true_within}

pub range_fits : (r : Range) → is_plan_range r ≡ true → r.at + r.len ≤ 2 ^ 32
range_fits r t = leb-true (r.at + r.len) (2 ^ 32) (and_parts _ _ t).1

pub device_fits : (d : Device) → is_plan_device d ≡ true → d.range.at + d.range.len ≤ 2 ^ 32
device_fits d t = range_fits d.range (and_parts _ _ (and_parts _ _ t).0).0

pub ram_stays : (plan : PlanData) (x size : ℕ) (r : Range) → IsPlan plan → find (is_within_range x size) plan.ram ≡ Some r → AreStoresInRangeUntil plan size x (r.at + r.len)
ram_stays plan x size r ok e =
    let fits = range_fits r (found_all (is_within_range x size) is_plan_range plan.ram r ok.ranges.ram e) in
    let here = within_true x size r (found_true (is_within_range x size) plan.ram r e) in
    record {
      here = here.1;
      within = fits;
      each = λ y low high. (omega arith, inl (found_one (is_within_range x size) plan.ram r y size e (omega arith, high)));
    }

pub device_stays : (plan : PlanData) (x size : ℕ) (d : Device) → IsPlan plan → find (λ d. is_within_range x size d.range && is_within_range x size d.range) plan.devices ≡ Some d
    → AreStoresInRangeUntil plan size x (d.range.at + d.range.len)
device_stays plan x size d ok e =
    let fits = device_fits d (found_all _ is_plan_device plan.devices d ok.ranges.devices e) in
    let here = within_true x size d.range (and_parts _ _ (found_true _ plan.devices d e)).0 in
    record {
      here = here.1;
      within = fits;
      each = λ y low high. (omega arith, inr (found_device _ plan.devices d y size e (omega arith, high)));
    }

pub none_stays : (plan : PlanData) (x size : ℕ) → find (is_within_range x size) plan.ram ≡ None → find (λ d. is_within_range x size d.range && is_within_range x size d.range) plan.devices ≡ None
    → IsStoreInRange plan (x, size) → ⊥
none_stays plan x size no_ram no_device s =
    elim s.1 [
      | inl i ↦ unfound_one x size plan.ram no_ram i
      | inr i ↦ unfound_device _ x size plan.devices (λ d w. let t = true_within x size d.range w in and_from _ _ t t) no_device i
    ]

-- ---- multiples
next_above : (s : ℕ) → s ≤ 2 → (x : ℕ) → x < (x / 2 ^ s + 1) * 2 ^ s
next_above = step_cases (λ s. (x : ℕ) → x < (x / 2 ^ s + 1) * 2 ^ s) (λ x. omega arith) (λ x. omega arith) (λ x. omega arith)

next_least : (s : ℕ) → s ≤ 2 → (x y : ℕ) → x < y → y ≡ y / 2 ^ s * 2 ^ s → (x / 2 ^ s + 1) * 2 ^ s ≤ y
next_least =
    step_cases (λ s. (x y : ℕ) → x < y → y ≡ y / 2 ^ s * 2 ^ s → (x / 2 ^ s + 1) * 2 ^ s ≤ y)
    (λ x y h e. omega arith)
    (λ x y h e. omega arith)
    (λ x y h e. omega arith)

pub next_is : (s x : ℕ) → s ≤ 2 → IsNextStoreAddress s x ((x / 2 ^ s + 1) * 2 ^ s)
next_is s x small = record {
  above = next_above s small x;
  fits = from_units s small (x / 2 ^ s + 1) ((x / 2 ^ s + 1) * 2 ^ s) refl;
  least = λ y h f. next_least s small x y h (in_units s small y f);
}

-- ---- the walk along a Span
-- all members below x are in range, and x is a multiple not below the first
pub record Walked (plan : PlanData) (least last step size x : ℕ) : Type 0 where
  pub from : least ≤ x
  pub fits : step ≤ alignment_log2 x
  pub before : (y : ℕ) → IsMember y (Span least last step) → y < x → IsStoreInRange plan (y, size)

-- from a range to the first member that leaves it
pub walk_more : (plan : PlanData) (least last step size x end next : ℕ) → Walked plan least last step size x → AreStoresInRangeUntil plan size x end → IsNextStoreAddress step (end - size) next
    → Walked plan least last step size next
walk_more plan least last step size x end next w s n = record {
  from = omega (arith, w.from, s.here, n.above);
  fits = n.fits;
  before = λ y m h.
      elim (cases_lt y x) [
        | inl low ↦ w.before y m low
        | inr high ↦ elim (cases_lt (end - size) y) [
          | inl past ↦ absurd (let o : next ≤ y = n.least y past m.2 in omega arith)
          | inr held ↦ s.each y high (let o = s.here in omega arith)
        ]
      ];
}

-- ---- the words of a Set
among_all : (P : ℕ → Type 0) (ws : List ℕ) → All P ws → (x : ℕ) → Among x ws → P x
among_all P [] all x i = absurd i
among_all P (w ∷ ws) all x i =
    elim i [
      | inl e ↦ subst P (sym e) (all 0 0 (omega arith))
      | inr j ↦ among_all P ws (λ k d h. all (suc k) d (omega arith)) x j
    ]

pub set_stores : (plan : PlanData) (ws : List ℕ) (size : ℕ) → All (λ x. IsStoreInRange plan (x, size)) ws → AreStoresInRange plan (Set ws) size
set_stores plan ws size all x i = among_all (λ x. IsStoreInRange plan (x, size)) ws all x i

pub stores_set : (plan : PlanData) (ws : List ℕ) (size : ℕ) → AreStoresInRange plan (Set ws) size → All (λ x. IsStoreInRange plan (x, size)) ws
stores_set plan ws size each = All-from_get_or (λ x. IsStoreInRange plan (x, size)) ws 0 (λ i h. each (get_or ws i 0) (among_get ws i h))

-- ---- a Span from its first member on
pub span_stores : {least greatest s : ℕ} (plan : PlanData) (lo last step size : ℕ) → IsWellFormed (Span lo last step) → IsExtent (multiples_in_range lo last step) least greatest s
    → AreStoresInRange plan (Span least last step) size → AreStoresInRange plan (Span lo last step) size
span_stores plan lo last step size well e each x m = each x (e.low x (among_range x lo last step well.0 m), m.1, m.2)

pub stores_span : {least greatest s : ℕ} (plan : PlanData) (lo last step size : ℕ) → IsWellFormed (Span lo last step) → IsExtent (multiples_in_range lo last step) least greatest s
    → AreStoresInRange plan (Span lo last step) size → AreStoresInRange plan (Span least last step) size
stores_span {least} plan lo last step size well e each x m =
    let first = range_among least lo last step well.0 e.low_in in
    each x ((let a : lo ≤ least = first.0 in let b : least ≤ x = m.0 in omega arith), m.1, m.2)

pub first_fits : {least greatest s : ℕ} (lo last step : ℕ) → IsWellFormed (Span lo last step) → IsExtent (multiples_in_range lo last step) least greatest s → step ≤ alignment_log2 least
first_fits {least} lo last step well e = (range_among least lo last step well.0 e.low_in).2

-- ---- multiples of a size
size_twos : (n x : ℕ) → IsAccessSize n → (alignment_log2 n ≤ alignment_log2 x) ↔ (x % n ≡ 0)
unfolding alignment_log2
size_twos n x (inl e) = grind (arith, nat_tests)
size_twos n x (inr (inl e)) = grind (arith, nat_tests)
size_twos n x (inr (inr e)) = grind (arith, nat_tests)

pub aligned_is : {least greatest s : ℕ} (v : Val) (n : ℕ) → IsWellFormed v → IsAccessSize n → IsExtent (members v) least greatest s → (alignment_log2 n ≤ s) ↔ AreAligned v n
aligned_is {s = s} v n well size e = (
  (λ h x m. (size_twos n x size).0 (let f : s ≤ alignment_log2 x = e.fits x (among_member v x (has_step v well) m) in omega arith)),
  (λ each. e.full (alignment_log2 n) (twos_le n) (λ z i. (size_twos n z size).1 (each z (member_among v z (has_step v well) i)))),
)
