-- The thresholds next to a word are the greatest not above it and the least above it.
use Rattle.std.proofs.Common.{◌≡◌, ℕ, ◌^◌, ◌<◌, ◌≤◌, ◌⊎◌, inl, inr, List, [], ◌∷◌, ◌++◌, refl, subst, sym, ◌∙◌, arith, min, max, length, get_or, ◌-◌, drop}
use Rattle.std.proofs.lemmas.Bool.{cases_lt, lt-ltb, le-ltb, le-leb, lt-leb}
use Rattle.tcd_plan.specs.PlanData.{PlanData, all_ranges}
use Rattle.std.specs.List.{Contains, refill}
use Rattle.std.specs.List.Sorted.{IsNonDecreasing, IsPermutation}
use Rattle.std.proofs.lemmas.List.Sorted.{Contains-permutation, IsPermutation-sym}
use Rattle.std.proofs.lemmas.List.{get_or_default, take-append-le, take_all}
use Rattle.value_domain.proofs.Loops.{among_get}
use Rattle.value_domain.proofs.WordLaws.{among_place}
use Rattle.value_domain.specs.Sets.{Among, AreAmong}
use Rattle.value_domain.specs.Thresholds.{AreSortedThresholds, range_ends, powers_of_two, thresholds_of, HasNearestThresholds}
use Rattle.value_domain.specs.Floors.{floor, threshold_above}
use Rattle.value_domain.proofs.LimitLaws.{floor_le, above_lt, above_le}

-- the greater of two is one of them
max_is : (a b : ℕ) → (max a b ≡ a) ⊎ (max a b ≡ b)
max_is a b = elim (cases_lt a b) [ inl l ↦ inr (omega arith) | inr g ↦ inl (omega arith) ]

min_is : (a b : ℕ) → (min a b ≡ a) ⊎ (min a b ≡ b)
min_is a b = elim (cases_lt a b) [ inl l ↦ inl (omega arith) | inr g ↦ inr (omega arith) ]

floor-past : (t : ℕ) (ts : List ℕ) (x : ℕ) → x < t → floor (t ∷ ts) x ≡ floor ts x
unfolding floor
floor-past t ts x past = rw (lt-leb t x past) refl

floor-at : (t : ℕ) (ts : List ℕ) (x : ℕ) → t ≤ x → floor (t ∷ ts) x ≡ max t (floor ts x)
unfolding floor
floor-at t ts x at_x = rw (le-leb t x at_x) refl

-- 0, or among the thresholds
IsFound : List ℕ → ℕ → ℕ → Type 0
IsFound ts other n = (n ≡ other) ⊎ Among n ts

found_later : (t : ℕ) (ts : List ℕ) (other n : ℕ) → IsFound ts other n → IsFound (t ∷ ts) other n
unfolding IsFound
found_later t ts other n found = elim found [ inl last ↦ inl last | inr among ↦ inr (inr among) ]

found_here : (t : ℕ) (ts : List ℕ) (other : ℕ) → IsFound (t ∷ ts) other t
unfolding IsFound
found_here t ts other = inr (inl refl)

floor_found : (ts : List ℕ) (x : ℕ) → IsFound ts 0 (floor ts x)
unfolding IsFound floor
floor_found [] x = inl refl
floor_found (t ∷ ts) x =
    let later = found_later t ts 0 (floor ts x) (floor_found ts x) in
    elim (cases_lt x t) [
      | inl past ↦ subst (IsFound (t ∷ ts) 0) (sym (floor-past t ts x past)) later
      | inr at_x ↦
          elim (max_is t (floor ts x)) [
            | inl here ↦ subst (IsFound (t ∷ ts) 0) (sym (floor-at t ts x at_x ∙ here)) (found_here t ts 0)
            | inr there ↦ subst (IsFound (t ∷ ts) 0) (sym (floor-at t ts x at_x ∙ there)) later
          ]
    ]

floor_greatest : (ts : List ℕ) (x s : ℕ) → Among s ts → s ≤ x → s ≤ floor ts x
unfolding floor
floor_greatest [] x s among below = absurd among
floor_greatest (t ∷ ts) x s among below =
    elim (cases_lt x t) [
      | inl past ↦
          rw (lt-leb t x past) (elim among [ inl same ↦ absurd (omega arith) | inr later ↦ floor_greatest ts x s later below ])
      | inr at_x ↦
          rw (le-leb t x at_x) (
          elim among [
            | inl same ↦ omega arith
            | inr later ↦ let rest = floor_greatest ts x s later below in omega arith
          ]
          )
    ]

above-past : (t : ℕ) (ts : List ℕ) (x : ℕ) → x < t → threshold_above (t ∷ ts) x ≡ min t (threshold_above ts x)
unfolding threshold_above
above-past t ts x past = rw (lt-ltb x t past) refl

above-at : (t : ℕ) (ts : List ℕ) (x : ℕ) → t ≤ x → threshold_above (t ∷ ts) x ≡ threshold_above ts x
unfolding threshold_above
above-at t ts x at_x = rw (le-ltb x t at_x) refl

above_none : (x : ℕ) → x < 2 ^ 32 → threshold_above [] x ≡ 2 ^ 32
unfolding threshold_above
above_none x small = omega arith

above_found : (ts : List ℕ) (x : ℕ) → x < 2 ^ 32 → IsFound ts (2 ^ 32) (threshold_above ts x)
unfolding IsFound
above_found [] x small = inl (above_none x small)
above_found (t ∷ ts) x small =
    let later = found_later t ts (2 ^ 32) (threshold_above ts x) (above_found ts x small) in
    elim (cases_lt x t) [
      | inl past ↦
          elim (min_is t (threshold_above ts x)) [
            | inl here ↦ subst (IsFound (t ∷ ts) (2 ^ 32)) (sym (above-past t ts x past ∙ here)) (found_here t ts (2 ^ 32))
            | inr there ↦ subst (IsFound (t ∷ ts) (2 ^ 32)) (sym (above-past t ts x past ∙ there)) later
          ]
      | inr at_x ↦ subst (IsFound (t ∷ ts) (2 ^ 32)) (sym (above-at t ts x at_x)) later
    ]

above_least : (ts : List ℕ) (x s : ℕ) → Among s ts → x < s → threshold_above ts x ≤ s
unfolding threshold_above
above_least [] x s among more = absurd among
above_least (t ∷ ts) x s among more =
    elim (cases_lt x t) [
      | inl past ↦
          rw (lt-ltb x t past) (
          elim among [
            | inl same ↦ omega arith
            | inr later ↦ let rest = above_least ts x s later more in omega arith
          ]
          )
      | inr at_x ↦
          rw (le-ltb x t at_x) (elim among [ inl same ↦ absurd (omega arith) | inr later ↦ above_least ts x s later more ])
    ]

-- ---- the thresholds in order
-- the thresholds before a place are those that are at most x
pub record AreParted (ws : List ℕ) (x at : ℕ) : Type 0 where
  pub within : at ≤ length ws
  pub before : (k : ℕ) → k < at → get_or ws k 0 ≤ x
  pub after : (k : ℕ) → at ≤ k → k < length ws → x < get_or ws k 0

unfind : {P : Type 0} (ts : List ℕ) (other n : ℕ) → IsFound ts other n → (n ≡ other → P) → (Among n ts → P) → P
unfolding IsFound
unfind ts other n found last there = elim found [ inl e ↦ last e | inr i ↦ there i ]

pub floor-none : (ws : List ℕ) (x at : ℕ) → AreParted ws x at → at ≡ 0 → floor ws x ≡ 0
floor-none ws x at parted none =
    unfind ws 0 (floor ws x) (floor_found ws x) (λ e. e)
    (λ i.
    let p = among_place ws (floor ws x) i in
    let low : floor ws x ≤ x = floor_le ws x in
    let high : x < get_or ws p.0 0 = parted.after p.0 (omega arith) p.1 in
    absurd (omega (arith, p.2)))

pub floor-last : (ws : List ℕ) (x at : ℕ) → IsNonDecreasing ws → AreParted ws x at → 0 < at → floor ws x ≡ get_or ws (at - 1) 0
floor-last ws x at ordered parted some =
    let below : get_or ws (at - 1) 0 ≤ x = parted.before (at - 1) (omega arith) in
    let within : at ≤ length ws = parted.within in
    let least : get_or ws (at - 1) 0 ≤ floor ws x = floor_greatest ws x (get_or ws (at - 1) 0) (among_get ws (at - 1) (omega arith)) below in
    unfind ws 0 (floor ws x) (floor_found ws x) (λ e. omega arith)
    (λ i.
    let p = among_place ws (floor ws x) i in
    let low : floor ws x ≤ x = floor_le ws x in
    elim (cases_lt p.0 at) [
      | inl lt ↦ let o : get_or ws p.0 0 ≤ get_or ws (at - 1) 0 = ordered p.0 (at - 1) 0 (omega arith) (omega arith) in omega (arith, p.2)
      | inr ge ↦ let high : x < get_or ws p.0 0 = parted.after p.0 ge p.1 in absurd (omega (arith, p.2))
    ])

pub above-none : (ws : List ℕ) (x at : ℕ) → x < 2 ^ 32 → AreParted ws x at → at ≡ length ws → threshold_above ws x ≡ 2 ^ 32
above-none ws x at small parted all =
    unfind ws (2 ^ 32) (threshold_above ws x) (above_found ws x small) (λ e. e)
    (λ i.
    let p = among_place ws (threshold_above ws x) i in
    let high : x < threshold_above ws x = above_lt ws x in
    let low : get_or ws p.0 0 ≤ x = parted.before p.0 (omega (arith, p.1)) in
    absurd (omega (arith, p.2)))

pub above-first : (ws : List ℕ) (x at : ℕ) → x < 2 ^ 32 → IsNonDecreasing ws → AreParted ws x at → at < length ws → threshold_above ws x ≡ min (get_or ws at 0) (2 ^ 32)
above-first ws x at small ordered parted some =
    let over : x < get_or ws at 0 = parted.after at (omega arith) some in
    let least : threshold_above ws x ≤ get_or ws at 0 = above_least ws x (get_or ws at 0) (among_get ws at some) over in
    let most : threshold_above ws x ≤ 2 ^ 32 = above_le ws x small in
    unfind ws (2 ^ 32) (threshold_above ws x) (above_found ws x small) (λ e. omega arith)
    (λ i.
    let p = among_place ws (threshold_above ws x) i in
    let high : x < threshold_above ws x = above_lt ws x in
    elim (cases_lt p.0 at) [
      | inl lt ↦ let low : get_or ws p.0 0 ≤ x = parted.before p.0 lt in absurd (omega (arith, p.2))
      | inr ge ↦ let o : get_or ws at 0 ≤ get_or ws p.0 0 = ordered at p.0 0 ge p.1 in omega (arith, p.2)
    ])

-- lists with equal numbers have equal thresholds next to a word
pub floor-same : (ws ts : List ℕ) (x : ℕ) → AreAmong ws ts → AreAmong ts ws → floor ws x ≡ floor ts x
floor-same ws ts x there back =
    let low : floor ws x ≤ floor ts x = half ws ts x there in
    let high : floor ts x ≤ floor ws x = half ts ws x back in
    omega arith
  where
    half : (ws ts : List ℕ) (x : ℕ) → AreAmong ws ts → floor ws x ≤ floor ts x
    half ws ts x there = unfind ws 0 (floor ws x) (floor_found ws x) (λ e. omega arith) (λ i. floor_greatest ts x (floor ws x) (there (floor ws x) i) (floor_le ws x))

pub above-same : (ws ts : List ℕ) (x : ℕ) → x < 2 ^ 32 → AreAmong ws ts → AreAmong ts ws → threshold_above ws x ≡ threshold_above ts x
above-same ws ts x small there back =
    let low : threshold_above ws x ≤ threshold_above ts x = half ts ws x small back in
    let high : threshold_above ts x ≤ threshold_above ws x = half ws ts x small there in
    omega arith
  where
    half : (ws ts : List ℕ) (x : ℕ) → x < 2 ^ 32 → AreAmong ws ts → threshold_above ts x ≤ threshold_above ws x
    half ws ts x small there =
        unfind ws (2 ^ 32) (threshold_above ws x) (above_found ws x small) (λ e. let most : threshold_above ts x ≤ 2 ^ 32 = above_le ts x small in omega arith)
        (λ i. above_least ts x (threshold_above ws x) (there (threshold_above ws x) i) (above_lt ws x))

-- ---- sorting
contained : (xs : List ℕ) (x : ℕ) → Among x xs → Contains xs x
contained xs x i =
    let p = among_place xs x i in
    let e : get_or xs p.0 x ≡ get_or xs p.0 0 = get_or_default xs p.0 x 0 p.1 in
    (p.0, p.1, e ∙ p.2)

among_contained : (xs : List ℕ) (x : ℕ) → Contains xs x → Among x xs
among_contained xs x c =
    let e : get_or xs c.0 0 ≡ get_or xs c.0 x = get_or_default xs c.0 0 x c.1 in
    subst (λ (y : ℕ). Among y xs) (e ∙ c.2) (among_get xs c.0 c.1)

-- a vector's elements after all of them were written
pub refill-all : (xs ys : List ℕ) → length ys ≡ length xs → refill (length xs) xs ys ≡ ys
refill-all xs ys e = take-append-le (length xs) ys (drop (length ys) xs) (omega arith) ∙ take_all (length xs) ys (omega arith)

pub sorted_in_order : (xs ys : List ℕ) → IsPermutation xs ys → IsNonDecreasing ys → AreSortedThresholds ys xs
sorted_in_order xs ys moved ordered = record {
  ordered = ordered;
  within = λ z i. among_contained xs z (Contains-permutation ys xs z (IsPermutation-sym xs ys moved) (contained ys z i));
  back = λ z i. among_contained ys z (Contains-permutation xs ys z moved (contained xs z i));
}

-- what is among a list is among a longer one
among_front : (z : ℕ) (xs ys : List ℕ) → Among z xs → Among z (xs ++ ys)
among_front z [] ys among = absurd among
among_front z (x ∷ xs) ys among = elim among [ inl same ↦ inl same | inr later ↦ inr (among_front z xs ys later) ]

among_end : (z : ℕ) (xs : List ℕ) → Among z (xs ++ z ∷ [])
among_end z [] = inl refl
among_end z (x ∷ xs) = inr (among_end z xs)

-- the last power of two is 2 ^ 32
last_power : Among (2 ^ 32) (powers_of_two 33)
unfolding powers_of_two
last_power = among_end (2 ^ 32) (powers_of_two 32)

among_found : (ts : List ℕ) (other n : ℕ) → Among other ts → IsFound ts other n → Among n ts
unfolding IsFound
among_found ts other n has found =
    elim found [ inl last ↦ subst (λ (k : ℕ). Among k ts) (sym last) has | inr among ↦ among ]

pub has_thresholds : (plan : PlanData) (x : ℕ) → x < 2 ^ 32 → HasNearestThresholds (thresholds_of plan) x
has_thresholds plan x small =
    let low : Among 0 (thresholds_of plan) = inl refl in
    let high : Among (2 ^ 32) (thresholds_of plan) = inr (among_front (2 ^ 32) (powers_of_two 33) (range_ends (all_ranges plan)) last_power) in
    record {
      floor = record {
        among = among_found (thresholds_of plan) 0 (floor (thresholds_of plan) x) low (floor_found (thresholds_of plan) x);
        below = floor_le (thresholds_of plan) x;
        greatest = floor_greatest (thresholds_of plan) x;
      };
      above = record {
        among = among_found (thresholds_of plan) (2 ^ 32) (threshold_above (thresholds_of plan) x) high (above_found (thresholds_of plan) x small);
        above = above_lt (thresholds_of plan) x;
        least = above_least (thresholds_of plan) x;
      };
    }
