-- The ranges of a plan fit in memory and share no address.
use Rattle.std.proofs.Common.{◌≡◌, ℕ, ◌+◌, ◌<◌, ◌≤◌, ◌^◌, inl, inr, true, ◌&&◌, ◌||◌, List, [], ◌∷◌, ◌++◌, map, max, refl, sym, ap, ◌∙◌, arith, nat_le, nat_lt, ◌==◌, ◌%◌}
use Rattle.std.proofs.lemmas.Bool.{cases_lt, and_parts, and_from, or_cases, or_right, leb-true, le-leb, ltb-true, lt-ltb, eqb-true, eq-eqb}
use Rattle.std.proofs.lemmas.List.Folds.{list_all-append}
use Rattle.std.specs.List.{list_all}
use Rattle.tcd_base.specs.declared.range.Range.{Range}
use Rattle.tcd_base.specs.Ranges.{IsWithinRange, IsInOneRange}
use Rattle.tcd_base.proofs.RangeLaws.{IsInOne-front}
use Rattle.tcd_plan.specs.declared.plans.Device.{Device}
use Rattle.tcd_plan.specs.PlanData.{PlanData, IsPlan, is_plan_range, is_plan_device, are_ranges_disjoint, are_all_ranges_disjoint, areas_range}
use Rattle.tcd_plan.specs.MappedAddresses.{IsInAreas}

-- ---- ranges of whole words
pub range_parts : (r : Range) → is_plan_range r ≡ true → (r.at % 4 ≡ 0) × (r.len % 4 ≡ 0) × (0 < r.len) × (r.at + r.len ≤ 2 ^ 32)
range_parts r h =
    let a = and_parts ((r.at % 4 == 0) && (r.len % 4 == 0) && nat_lt 0 r.len) (nat_le (r.at + r.len) (2 ^ 32)) h in
    let c = and_parts ((r.at % 4 == 0) && (r.len % 4 == 0)) (nat_lt 0 r.len) a.0 in
    let d = and_parts (r.at % 4 == 0) (r.len % 4 == 0) c.0 in
    (eqb-true _ _ d.0, eqb-true _ _ d.1, ltb-true 0 r.len c.1, leb-true (r.at + r.len) (2 ^ 32) a.1)

pub is_range-from : (r : Range) → r.at % 4 ≡ 0 → r.len % 4 ≡ 0 → 0 < r.len → r.at + r.len ≤ 2 ^ 32 → is_plan_range r ≡ true
is_range-from r a l some fits = and_from _ _ (and_from _ _ (and_from _ _ (eq-eqb _ _ a) (eq-eqb _ _ l)) (lt-ltb 0 r.len some)) (le-leb (r.at + r.len) (2 ^ 32) fits)

-- the ranges of peripherals
pub device_ranges : (ds : List Device) → list_all is_plan_device ds ≡ true → list_all is_plan_range (map (λ (d : Device). d.range) ds) ≡ true
device_ranges [] h = refl
device_ranges (d ∷ ds) h =
    let p = and_parts (is_plan_device d) (list_all is_plan_device ds) h in
    let q = and_parts (is_plan_range d.range && nat_le d.lo d.hi) (nat_lt d.hi (2 ^ 32)) p.0 in
    and_from _ _ (and_parts (is_plan_range d.range) (nat_le d.lo d.hi) q.0).0 (device_ranges ds p.1)

-- each range of the list has a byte
abbrev pub HaveBytes : List Range → Type 0
HaveBytes [] = Unit {0}
HaveBytes (r ∷ rs) = (0 < r.len) × HaveBytes rs

pub HaveBytes-ranges : (rs : List Range) → list_all is_plan_range rs ≡ true → HaveBytes rs
HaveBytes-ranges [] h = tt
HaveBytes-ranges (r ∷ rs) h = let p = and_parts (is_plan_range r) (list_all is_plan_range rs) h in ((range_parts r p.0).2, HaveBytes-ranges rs p.1)

pub HaveBytes-append : (rs ss : List Range) → HaveBytes rs → HaveBytes ss → HaveBytes (rs ++ ss)
HaveBytes-append [] ss a b = b
HaveBytes-append (r ∷ rs) ss a b = (a.0, HaveBytes-append rs ss a.1 b)

-- ---- ranges that share no byte
-- addresses inside a range don't pass 2^32
pub IsInOne-fits : (x n : ℕ) (rs : List Range) → list_all is_plan_range rs ≡ true → IsInOneRange x n rs → x + n ≤ 2 ^ 32
IsInOne-fits x n [] all h = absurd h
IsInOne-fits x n (r ∷ rs) all (inl h) = let fits = (range_parts r (and_parts _ _ all).0).3 in omega arith
IsInOne-fits x n (r ∷ rs) all (inr h) = IsInOne-fits x n rs (and_parts _ _ all).1 h

apart_one : (x : ℕ) (r s : Range) → are_ranges_disjoint r s ≡ true → IsWithinRange x 1 r → IsWithinRange x 1 s → ⊥
apart_one x r s e h g =
    elim (or_cases (nat_le (r.at + r.len) s.at) (nat_le (s.at + s.len) r.at) e) [
      | inl a ↦ let le = leb-true (r.at + r.len) s.at a in absurd (omega arith)
      | inr b ↦ let le = leb-true (s.at + s.len) r.at b in absurd (omega arith)
    ]

apart_each : (x : ℕ) (r : Range) (ss : List Range) → list_all (are_ranges_disjoint r) ss ≡ true → IsWithinRange x 1 r → IsInOneRange x 1 ss → ⊥
apart_each x r [] e h g = g
apart_each x r (s ∷ ss) e h (inl g) = apart_one x r s (and_parts _ _ e).0 h g
apart_each x r (s ∷ ss) e h (inr g) = apart_each x r ss (and_parts _ _ e).1 h g

-- no address is inside a range and inside a later one
pub all_apart-before : (x : ℕ) (rs ss : List Range) → are_all_ranges_disjoint (rs ++ ss) ≡ true → IsInOneRange x 1 rs → IsInOneRange x 1 ss → ⊥
all_apart-before x [] ss e h g = h
all_apart-before x (r ∷ rs) ss e (inl h) g =
    let each = (and_parts _ _ e).0 in
    apart_each x r ss (and_parts _ _ (sym (list_all-append (are_ranges_disjoint r) rs ss) ∙ each)).1 h g
all_apart-before x (r ∷ rs) ss e (inr h) g = all_apart-before x rs ss (and_parts _ _ e).1 h g

pub all_apart-behind : (rs ss : List Range) → are_all_ranges_disjoint (rs ++ ss) ≡ true → are_all_ranges_disjoint ss ≡ true
all_apart-behind [] ss e = e
all_apart-behind (r ∷ rs) ss e = all_apart-behind rs ss (and_parts _ _ e).1

pub all_apart-front : (rs ss : List Range) → are_all_ranges_disjoint (rs ++ ss) ≡ true → are_all_ranges_disjoint rs ≡ true
all_apart-front [] ss e = refl
all_apart-front (r ∷ rs) ss e =
    let p = and_parts (list_all (are_ranges_disjoint r) (rs ++ ss)) (are_all_ranges_disjoint (rs ++ ss)) e in
    and_from _ _ (and_parts _ _ (sym (list_all-append (are_ranges_disjoint r) rs ss) ∙ p.0)).0 (all_apart-front rs ss p.1)

apart_from : (r s : Range) → 0 < r.len → 0 < s.len → ((x : ℕ) → IsWithinRange x 1 r → IsWithinRange x 1 s → ⊥) → are_ranges_disjoint r s ≡ true
apart_from r s some other none =
    elim (cases_lt s.at (r.at + r.len)) [
      | inr before ↦ ap (λ t. t || nat_le (s.at + s.len) r.at) (le-leb (r.at + r.len) s.at before)
      | inl low ↦ elim (cases_lt r.at (s.at + s.len)) [
        | inr behind ↦ or_right (nat_le (r.at + r.len) s.at) (nat_le (s.at + s.len) r.at) (le-leb (s.at + s.len) r.at behind)
        | inl high ↦ absurd (none (max r.at s.at) (omega arith, omega arith) (omega arith, omega arith))
      ]
    ]

pub each_apart : (r : Range) (ss : List Range) → 0 < r.len → HaveBytes ss → ((x : ℕ) → IsWithinRange x 1 r → IsInOneRange x 1 ss → ⊥) → list_all (are_ranges_disjoint r) ss ≡ true
each_apart r [] some have none = refl
each_apart r (s ∷ ss) some have none =
    and_from _ _ (apart_from r s some have.0 (λ x a b. none x a (inl b))) (each_apart r ss some have.1 (λ x a b. none x a (inr b)))

-- two lists of ranges that are apart, and share no byte
pub all_apart-append : (rs ss : List Range) → HaveBytes rs → HaveBytes ss → are_all_ranges_disjoint rs ≡ true → are_all_ranges_disjoint ss ≡ true → ((x : ℕ) → IsInOneRange x 1 rs → IsInOneRange x 1 ss → ⊥) → are_all_ranges_disjoint (rs ++ ss) ≡ true
all_apart-append [] ss have have2 a b none = b
all_apart-append (r ∷ rs) ss have have2 a b none =
    let p = and_parts (list_all (are_ranges_disjoint r) rs) (are_all_ranges_disjoint rs) a in
    and_from _ _ (list_all-append (are_ranges_disjoint r) rs ss ∙ and_from _ _ p.0 (each_apart r ss have.0 have2 (λ x h g. none x (inl h) g))) (all_apart-append rs ss have.1 have2 p.1 b (λ x h g. none x (inr h) g))

-- ---- rom
pub rom_fits : {plan : PlanData} → IsPlan plan → (x n : ℕ) → IsInOneRange x n plan.rom → x + n ≤ 2 ^ 32
rom_fits {plan = plan} ok x n h = let k = ok.ranges in IsInOne-fits x n plan.rom k.rom h

-- no address of the areas is inside rom
pub rom_apart : {plan : PlanData} → IsPlan plan → (x : ℕ) → IsInOneRange x 1 plan.rom → IsInAreas plan x → ⊥
rom_apart {plan = plan} ok x rom at =
    let devices = map (λ d. d.range) plan.devices in
    let within : IsWithinRange x 1 (areas_range plan) = (at.0, (let lt = at.1 in omega arith)) in
    all_apart-before x (plan.rom ++ plan.ram ++ devices) (areas_range plan ∷ []) ok.apart
    (IsInOne-front x 1 (plan.rom ++ plan.ram) devices (IsInOne-front x 1 plan.rom plan.ram rom)) (inl within)
