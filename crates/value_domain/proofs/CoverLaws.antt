-- `cover` gives the least value that holds a set.
use Rattle.std.proofs.Common.{pow_pos, ◌≡◌, ℕ, zero, suc, ◌+◌, ◌-◌, ◌*◌, ◌/◌, ◌%◌, ◌^◌, ◌<◌, ◌≤◌, inl, inr, List, [], ◌∷◌, length, refl, sym, ap, ◌∙◌, subst, arith}
use Rattle.std.proofs.Math.Nat.{mul-le-mul_left}
use Rattle.std.proofs.lemmas.Bool.{cases_eq, cases_lt, le-leb, lt-leb}
use Rattle.std.proofs.lemmas.Bool.Decides.{nat_tests}
use Rattle.value_domain.specs.declared.values.Val.{Val}
use Rattle.value_domain.specs.declared.values.Val.TheVariants.{Set, Span}
use Rattle.value_domain.specs.Sets.{Among, AreAmong, IsAscending, sorted_set_of, alignment_log2, least, greatest, step_of_set, multiples, AreCoverable}
use Rattle.value_domain.specs.Limits.{Limits, AreLimits}
use Rattle.value_domain.specs.Floors.{floor, threshold_above}
use Rattle.value_domain.specs.Values.{IsMember, IsWellFormed, IsBelow, cover, value_of_words, members, multiples_in_range, first_member_quotient, span_len}
use Rattle.value_domain.specs.Laws.{MembersAreListed, IsLeastValue}
use Rattle.value_domain.proofs.SetLaws.{rising_distinct, among_distinct, distinct_has, distinct_same, length-distinct, length_within, least_among, least_least, greatest_among, greatest_greatest, step_least, step_greatest, step_le}
use Rattle.value_domain.proofs.LimitLaws.{floor_le, floor_mono, floor_same, above_lt, above_le, above_mono, above_same}

-- ---- the members of a range
pub multiples_among : (x n start unit : ℕ) → Among x (multiples n start unit) → (k : ℕ) × (start ≤ k) × (k < start + n) × (x ≡ k * unit)
unfolding multiples
multiples_among x zero start unit h = absurd h
multiples_among x (suc n) start unit h =
    elim h [
      | inl e ↦ (start, omega arith, omega arith, e)
      | inr i ↦ let rest = multiples_among x n (start + 1) unit i in (rest.0, omega arith, omega arith, rest.3)
    ]

pub among_multiples : (k n start unit : ℕ) → start ≤ k → k < start + n → Among (k * unit) (multiples n start unit)
unfolding multiples
among_multiples k zero start unit low high = absurd (omega arith)
among_multiples k (suc n) start unit low high =
    elim (cases_eq k start) [
      | inl e ↦ inl (ap (λ j. j * unit) e)
      | inr ne ↦ inr (among_multiples k n (start + 1) unit (omega arith) (omega arith))
    ]

pub length-multiples : (n start unit : ℕ) → length (multiples n start unit) ≡ n
unfolding multiples
length-multiples zero start unit = refl
length-multiples (suc n) start unit = let e = length-multiples n (start + 1) unit in omega arith

later_multiple : (start k unit y : ℕ) → 0 < unit → start + 1 ≤ k → y ≡ k * unit → start * unit < y
later_multiple start k unit y some low e = grind (arith, mul-le-mul_left unit low)

pub rising_multiples : (n start unit : ℕ) → 0 < unit → IsAscending (multiples n start unit)
unfolding multiples
rising_multiples zero start unit some = tt
rising_multiples (suc n) start unit some =
    ((λ y i. let k = multiples_among y n (start + 1) unit i in later_multiple start k.0 unit y some k.1 k.3), rising_multiples n (start + 1) unit some)

pub unit_some : (s : ℕ) → 0 < 2 ^ s
unit_some s = pow_pos s

-- the steps, one by one
pub step_cases : (P : ℕ → Type 0) → P 0 → P 1 → P 2 → (s : ℕ) → s ≤ 2 → P s
step_cases P zeroth first second zero h = zeroth
step_cases P zeroth first second (suc zero) h = first
step_cases P zeroth first second (suc (suc zero)) h = second
step_cases P zeroth first second (suc (suc (suc s))) h = absurd (omega arith)

twos_1 : (x : ℕ) → 1 ≤ alignment_log2 x → x % 2 ≡ 0
unfolding alignment_log2
twos_1 x h = grind (arith, nat_tests)

twos_2 : (x : ℕ) → 2 ≤ alignment_log2 x → x % 4 ≡ 0
unfolding alignment_log2
twos_2 x h = grind (arith, nat_tests)

from_twos_1 : (x : ℕ) → x % 2 ≡ 0 → 1 ≤ alignment_log2 x
unfolding alignment_log2
from_twos_1 x h = grind (arith, nat_tests)

from_twos_2 : (x : ℕ) → x % 4 ≡ 0 → 2 ≤ alignment_log2 x
unfolding alignment_log2
from_twos_2 x h = grind (arith, nat_tests)

-- x is a multiple of 2 ^ s
pub in_units : (s : ℕ) → s ≤ 2 → (x : ℕ) → s ≤ alignment_log2 x → x ≡ x / 2 ^ s * 2 ^ s
in_units =
    step_cases (λ s. (x : ℕ) → s ≤ alignment_log2 x → x ≡ x / 2 ^ s * 2 ^ s)
    (λ x h. omega arith)
    (λ x h. let m : x % 2 ≡ 0 = twos_1 x h in omega arith)
    (λ x h. let m : x % 4 ≡ 0 = twos_2 x h in omega arith)

pub from_units : (s : ℕ) → s ≤ 2 → (k x : ℕ) → x ≡ k * 2 ^ s → s ≤ alignment_log2 x
from_units =
    step_cases (λ s. (k x : ℕ) → x ≡ k * 2 ^ s → s ≤ alignment_log2 x)
    (λ k x h. omega arith)
    (λ k x h. from_twos_1 x (omega arith))
    (λ k x h. from_twos_2 x (omega arith))

-- the multiples of a range, in units
in_range : (s : ℕ) → s ≤ 2 → (lo last k : ℕ) → first_member_quotient lo s ≤ k → k < first_member_quotient lo s + span_len lo last s → (lo ≤ k * 2 ^ s) × (k * 2 ^ s ≤ last)
in_range =
    step_cases (λ s. (lo last k : ℕ) → first_member_quotient lo s ≤ k → k < first_member_quotient lo s + span_len lo last s → (lo ≤ k * 2 ^ s) × (k * 2 ^ s ≤ last))
    (λ lo last k l h. (omega arith, omega arith))
    (λ lo last k l h. (omega arith, omega arith))
    (λ lo last k l h. (omega arith, omega arith))

from_range : (s : ℕ) → s ≤ 2 → (lo last k : ℕ) → lo ≤ k * 2 ^ s → k * 2 ^ s ≤ last → (first_member_quotient lo s ≤ k) × (k < first_member_quotient lo s + span_len lo last s)
from_range =
    step_cases (λ s. (lo last k : ℕ) → lo ≤ k * 2 ^ s → k * 2 ^ s ≤ last → (first_member_quotient lo s ≤ k) × (k < first_member_quotient lo s + span_len lo last s))
    (λ lo last k l h. (omega arith, omega arith))
    (λ lo last k l h. (omega arith, omega arith))
    (λ lo last k l h. (omega arith, omega arith))

pub range_among : (x lo last s : ℕ) → s ≤ 2 → Among x (multiples_in_range lo last s) → IsMember x (Span lo last s)
range_among x lo last s small h =
    let k = multiples_among x (span_len lo last s) (first_member_quotient lo s) (2 ^ s) h in
    let e : x ≡ k.0 * 2 ^ s = k.3 in
    let b = in_range s small lo last k.0 k.1 k.2 in
    (rw e b.0, rw e b.1, from_units s small k.0 x e)

pub among_range : (x lo last s : ℕ) → s ≤ 2 → IsMember x (Span lo last s) → Among x (multiples_in_range lo last s)
among_range x lo last s small h =
    let e : x ≡ x / 2 ^ s * 2 ^ s = in_units s small x h.2 in
    let b = from_range s small lo last (x / 2 ^ s) (rw (← e) h.0) (rw (← e) h.1) in
    subst (λ (y : ℕ). Among y (multiples_in_range lo last s)) (sym e) (among_multiples (x / 2 ^ s) (span_len lo last s) (first_member_quotient lo s) (2 ^ s) b.0 b.1)

-- what the members of a well-formed value need
abbrev pub HasStep : Val → Type 0
HasStep (Set ws) = Unit {0}
HasStep (Span lo last step) = step ≤ 2

pub member_among : (v : Val) (x : ℕ) → HasStep v → Among x (members v) → IsMember x v
member_among (Set ws) x s h = h
member_among (Span lo last step) x s h = range_among x lo last step s h

pub among_member : (v : Val) (x : ℕ) → HasStep v → IsMember x v → Among x (members v)
among_member (Set ws) x s h = h
among_member (Span lo last step) x s h = among_range x lo last step s h

pub has_step : (v : Val) → IsWellFormed v → HasStep v
has_step (Set ws) w = tt
has_step (Span lo last step) w = w.0

pub member_same : MembersAreListed
member_same v x well = (among_member v x (has_step v well), member_among v x (has_step v well))

-- ---- the two forms of a cover
pub cover-few : (b : Limits) (xs : List ℕ) → length (sorted_set_of xs) ≤ b.most_words → cover b xs ≡ Set (sorted_set_of xs)
unfolding cover
cover-few b xs few = rw (le-leb (length (sorted_set_of xs)) b.most_words few) refl

-- the span of an ascending list
abbrev pub span_of : Limits → List ℕ → Val
span_of b ws = Span (floor b.thresholds (least ws)) (threshold_above b.thresholds (greatest ws) - 1) (step_of_set ws)

pub cover-many : (b : Limits) (xs : List ℕ) → b.most_words < length (sorted_set_of xs) → cover b xs ≡ span_of b (sorted_set_of xs)
unfolding cover
cover-many b xs many = rw (lt-leb (length (sorted_set_of xs)) b.most_words many) refl

pub some_distinct : (xs : List ℕ) → 1 ≤ length xs → 1 ≤ length (sorted_set_of xs)
some_distinct xs some = some_length (sorted_set_of xs) (least xs) (distinct_has (least xs) xs (least_among xs some))
  where
    some_length : (ws : List ℕ) (x : ℕ) → Among x ws → 1 ≤ length ws
    some_length [] x i = absurd i
    some_length (w ∷ ws) x i = omega arith

span_holds : (b : Limits) (ws : List ℕ) → IsAscending ws → (z : ℕ) → Among z ws → IsMember z (span_of b ws)
span_holds b ws r z i =
    let low : least ws ≤ z = least_least ws r z i in
    let f : floor b.thresholds (least ws) ≤ least ws = floor_le b.thresholds (least ws) in
    let high : z ≤ greatest ws = greatest_greatest ws z i in
    let a : greatest ws < threshold_above b.thresholds (greatest ws) = above_lt b.thresholds (greatest ws) in
    (omega arith, omega arith, step_least ws z i)

pub cover_holds : (b : Limits) (xs : List ℕ) (z : ℕ) → Among z xs → IsMember z (cover b xs)
cover_holds b xs z i =
    elim (cases_lt b.most_words (length (sorted_set_of xs))) [
      | inl many ↦ rw (cover-many b xs many) (span_holds b (sorted_set_of xs) (rising_distinct xs) z (distinct_has z xs i))
      | inr few ↦ rw (cover-few b xs few) (distinct_has z xs i)
    ]

pub cover_step : (b : Limits) (xs : List ℕ) → HasStep (cover b xs)
cover_step b xs =
    elim (cases_lt b.most_words (length (sorted_set_of xs))) [
      | inl many ↦ rw (cover-many b xs many) (step_le (sorted_set_of xs))
      | inr few ↦ rw (cover-few b xs few) tt
    ]

span_mono : (b : Limits) (ws vs : List ℕ) → IsAscending vs → 1 ≤ length ws → AreAmong ws vs → (z : ℕ) → IsMember z (span_of b ws) → IsMember z (span_of b vs)
span_mono b ws vs r some there z m =
    let low : least vs ≤ least ws = least_least vs r (least ws) (there (least ws) (least_among ws some)) in
    let high : greatest ws ≤ greatest vs = greatest_greatest vs (greatest ws) (there (greatest ws) (greatest_among ws some)) in
    let f : floor b.thresholds (least vs) ≤ floor b.thresholds (least ws) = floor_mono b.thresholds (least vs) (least ws) low in
    let a : threshold_above b.thresholds (greatest ws) ≤ threshold_above b.thresholds (greatest vs) = above_mono b.thresholds (greatest ws) (greatest vs) high in
    let s : step_of_set vs ≤ step_of_set ws = step_greatest ws (step_of_set vs) (step_le vs) (λ x i. step_least vs x (there x i)) in
    (omega arith, omega arith, omega arith)

pub within_distinct : (xs ys : List ℕ) → AreAmong xs ys → AreAmong (sorted_set_of xs) (sorted_set_of ys)
within_distinct xs ys there z i = distinct_has z ys (there z (among_distinct z xs i))

pub cover_mono : (b : Limits) (xs ys : List ℕ) → 1 ≤ length xs → AreAmong xs ys → IsBelow (cover b xs) (cover b ys)
cover_mono b xs ys some there z m =
    elim (cases_lt b.most_words (length (sorted_set_of xs))) [
      | inl many ↦
          let longer : length (sorted_set_of xs) ≤ length (sorted_set_of ys) = length-distinct xs ys there in
          let m2 : IsMember z (span_of b (sorted_set_of xs)) = rw (cover-many b xs many) at m in
          rw (cover-many b ys (omega arith))
          (span_mono b (sorted_set_of xs) (sorted_set_of ys) (rising_distinct ys) (some_distinct xs some) (within_distinct xs ys there) z m2)
      | inr few ↦
          let m2 : Among z (sorted_set_of xs) = rw (cover-few b xs few) at m in
          cover_holds b ys z (there z (among_distinct z xs m2))
    ]

pub cover-same : (b : Limits) (xs ys : List ℕ) → AreAmong xs ys → AreAmong ys xs → cover b xs ≡ cover b ys
unfolding cover
cover-same b xs ys there back = ap (value_of_words b) (distinct_same xs ys there back)

-- a cover is the cover of its members
span_own : (b : Limits) (ws ms : List ℕ) → IsAscending ws → IsAscending ms → 1 ≤ length ws → AreAmong ws ms
    → ((z : ℕ) → Among z ms → IsMember z (span_of b ws)) → span_of b ms ≡ span_of b ws
span_own b ws ms rw_ rm some there held =
    let some_m : 1 ≤ length ms = omega (arith, length_within ws ms rw_ rm there) in
    let at_least : IsMember (least ms) (span_of b ws) = held (least ms) (least_among ms some_m) in
    let at_greatest : IsMember (greatest ms) (span_of b ws) = held (greatest ms) (greatest_among ms some_m) in
    let low : least ms ≤ least ws = least_least ms rm (least ws) (there (least ws) (least_among ws some)) in
    let high : greatest ws ≤ greatest ms = greatest_greatest ms (greatest ws) (there (greatest ws) (greatest_among ws some)) in
    let up : greatest ws < threshold_above b.thresholds (greatest ws) = above_lt b.thresholds (greatest ws) in
    let f : floor b.thresholds (least ms) ≡ floor b.thresholds (least ws) = floor_same b.thresholds (least ws) (least ms) at_least.0 low in
    let in_span : greatest ms ≤ threshold_above b.thresholds (greatest ws) - 1 = at_greatest.1 in
    let a : threshold_above b.thresholds (greatest ms) ≡ threshold_above b.thresholds (greatest ws) = above_same b.thresholds (greatest ws) (greatest ms) high (omega arith) in
    let s1 : step_of_set ws ≤ step_of_set ms = step_greatest ms (step_of_set ws) (step_le ws) (λ x i. (held x i).2) in
    let s2 : step_of_set ms ≤ step_of_set ws = step_greatest ws (step_of_set ms) (step_le ms) (λ x i. step_least ms x (there x i)) in
    let s : step_of_set ms ≡ step_of_set ws = omega arith in
    rw (f, a, s) refl

pub cover_own : (b : Limits) (xs : List ℕ) → 1 ≤ length xs → cover b (members (cover b xs)) ≡ cover b xs
cover_own b xs some =
    let there : AreAmong xs (members (cover b xs)) = λ z i. among_member (cover b xs) z (cover_step b xs) (cover_holds b xs z i) in
    elim (cases_lt b.most_words (length (sorted_set_of xs))) [
      | inl many ↦
          let longer : length (sorted_set_of xs) ≤ length (sorted_set_of (members (cover b xs))) = length-distinct xs (members (cover b xs)) there in
          cover-many b (members (cover b xs)) (omega arith)
          ∙ span_own b (sorted_set_of xs) (sorted_set_of (members (cover b xs))) (rising_distinct xs) (rising_distinct (members (cover b xs))) (some_distinct xs some)
          (within_distinct xs (members (cover b xs)) there)
          (λ z i. rw (cover-many b xs many) at (member_among (cover b xs) z (cover_step b xs) (among_distinct z (members (cover b xs)) i)))
          ∙ sym (cover-many b xs many)
      | inr few ↦
          cover-same b (members (cover b xs)) xs
          (λ z i. among_distinct z xs (rw (cover-few b xs few) at i))
          there
    ]

pub cover_well : (b : Limits) (xs : List ℕ) → AreLimits b → AreCoverable xs → IsWellFormed (cover b xs)
cover_well b xs limits good =
    elim (cases_lt b.most_words (length (sorted_set_of xs))) [
      | inl many ↦
          let some : 1 ≤ length (sorted_set_of xs) = some_distinct xs good.some in
          let ts : List ℕ = b.thresholds in
          let ws : List ℕ = sorted_set_of xs in
          let held : AreAmong (sorted_set_of xs) (multiples_in_range (floor b.thresholds (least (sorted_set_of xs))) (threshold_above b.thresholds (greatest (sorted_set_of xs)) - 1) (step_of_set (sorted_set_of xs))) =
          λ z i. among_range z (floor b.thresholds (least (sorted_set_of xs))) (threshold_above b.thresholds (greatest (sorted_set_of xs)) - 1) (step_of_set (sorted_set_of xs)) (step_le (sorted_set_of xs))
          (span_holds b (sorted_set_of xs) (rising_distinct xs) z i)
          in
          let below : greatest (sorted_set_of xs) < 2 ^ 32 = good.below (greatest (sorted_set_of xs)) (among_distinct (greatest (sorted_set_of xs)) xs (greatest_among (sorted_set_of xs) some)) in
          let high : threshold_above b.thresholds (greatest (sorted_set_of xs)) ≤ 2 ^ 32 = above_le b.thresholds (greatest (sorted_set_of xs)) below in
          let up : greatest (sorted_set_of xs) < threshold_above b.thresholds (greatest (sorted_set_of xs)) = above_lt b.thresholds (greatest (sorted_set_of xs)) in
          rw (cover-many b xs many) (
            step_le (sorted_set_of xs),
            wide_range (sorted_set_of xs) (floor b.thresholds (least (sorted_set_of xs))) (threshold_above b.thresholds (greatest (sorted_set_of xs)) - 1) (step_of_set (sorted_set_of xs)) (rising_distinct xs) held (omega (arith, limits.wide)),
            omega arith,
          )
      | inr few ↦
          rw (cover-few b xs few)
          (record {
            some = some_distinct xs good.some;
            few = omega (arith, limits.narrow);
            rising = rising_distinct xs;
            below = λ x i. good.below x (among_distinct x xs i);
          })
    ]
  where
    wide_range : (ws : List ℕ) (lo last step : ℕ) → IsAscending ws → AreAmong ws (multiples_in_range lo last step) → 64 < length ws → 64 < span_len lo last step
    wide_range ws lo last step r there many =
        let shorter : length ws ≤ length (multiples_in_range lo last step) = length_within ws (multiples_in_range lo last step) r (rising_multiples (span_len lo last step) (first_member_quotient lo step) (2 ^ step) (unit_some step)) there in
        omega (arith, length-multiples (span_len lo last step) (first_member_quotient lo step) (2 ^ step))

pub cover_least : (b : Limits) (xs : List ℕ) → AreLimits b → AreCoverable xs → IsLeastValue b xs (cover b xs)
cover_least b xs limits good = record {
  value = record { well = cover_well b xs limits good; own = cover_own b xs good.some };
  holds = cover_holds b xs;
  least = λ w value held z m.
      rw value.own at (cover_mono b xs (members w) good.some (λ x i. among_member w x (has_step w value.well) (held x i)) z m);
}
