-- The value of an operation is one of the plan and the format.
use Rattle.std.proofs.Common.{◌≡◌, ℕ, ◌+◌, ◌%◌, ◌^◌, ◌<◌, ◌≤◌, inl, inr, Bool, true, false, not, List, [], ◌∷◌, ◌++◌, get_or, sym, arith, min, max, subst, bit_and, bit_or, bit_xor, ltb, leb, eqb}
use Rattle.std.proofs.lemmas.Bool.{cases_lt, lt-ltb, le-ltb, le-leb, lt-leb}
use Rattle.std.proofs.lemmas.Nat.{or_of_32, xor_of_32}
use Rattle.tc_isa.specs.declared.shapes.Op.{Op}
use Rattle.tc_isa.specs.declared.shapes.Op.TheVariants.{Second, Add, Sub, And, Nand, Or, Nor, Xor, Xnor, Andn, Orn, Eq, Ne, Lt, LtU, Ge, GeU, Sh, Sha}
use Rattle.tc_isa.specs.Arithmetic.{alu_of, complement, word_of_bool, signed_rank}
use Rattle.value_domain.specs.declared.values.Val.{Val}
use Rattle.value_domain.specs.declared.values.Val.TheVariants.{Set, Span}
use Rattle.value_domain.specs.Sets.{Among}
use Rattle.value_domain.specs.Limits.{Limits, AreLimits}
use Rattle.value_domain.specs.Values.{IsWellFormed, IsInLattice, cover, members, least_member, greatest_member, step_of_value}
use Rattle.value_domain.proofs.CoverLaws.{range_among, cover_least}
use Rattle.value_domain.proofs.ExtentLaws.{append_left, among_append}
use Rattle.value_domain.proofs.RangeLaws.{members_below, cover_value}
use Rattle.value_domain.proofs.WordLaws.{among_place}
use Rattle.vd_transfer.specs.Operations.{possible_results, results_of_pairs, results_by_extents, is_comparison, operation_value}
use Rattle.vd_transfer.specs.Intervals.{result_interval, extent_of_value, sum_interval, difference_interval, interval_words, all_multiples, interval}
use Rattle.vd_transfer.specs.declared.strided_interval.StridedInterval.{StridedInterval}
use Rattle.vd_transfer.proofs.OpLaws.{logical, arithmetic, complement_below, and_below, pairs_among, some_results, interval_of_row_step, bounds_of, high_below, by_below}

truth_below : (b : Bool) → word_of_bool b < 2 ^ 32
truth_below true = omega arith
truth_below false = omega arith

-- the result on words is a word
pub alu_below : (op : Op) (x y : ℕ) → x < 2 ^ 32 → y < 2 ^ 32 → alu_of op x y < 2 ^ 32
unfolding alu_of
alu_below Second x y h k = k
alu_below And x y h k = and_below x y h
alu_below Nand x y h k = complement_below (bit_and x y)
alu_below Or x y h k = or_of_32 x y h k
alu_below Nor x y h k = complement_below (bit_or x y)
alu_below Xor x y h k = xor_of_32 x y h k
alu_below Xnor x y h k = complement_below (bit_xor x y)
alu_below Andn x y h k = and_below x (complement y) h
alu_below Orn x y h k = or_of_32 x (complement y) h (complement_below y)
alu_below Eq x y h k = truth_below (eqb x y)
alu_below Ne x y h k = truth_below (not (eqb x y))
alu_below Lt x y h k = truth_below (ltb (signed_rank x) (signed_rank y))
alu_below LtU x y h k = truth_below (ltb x y)
alu_below Ge x y h k = truth_below (leb (signed_rank y) (signed_rank x))
alu_below GeU x y h k = truth_below (leb y x)
alu_below Sh x y h k = logical.word x (y % 64) h
alu_below Sha x y h k = arithmetic.word x (y % 64) h
alu_below _ x y h k = omega arith

sums_last : (a b c d m : ℕ) → b < 2 ^ 32 → d < 2 ^ 32 → (sum_interval a b c d m).last < 2 ^ 32
unfolding sum_interval
sums_last a b c d m h k =
    elim (cases_lt (b + d) (2 ^ 32)) [
      | inl fit ↦ rw (lt-ltb (b + d) (2 ^ 32) fit) fit
      | inr past ↦ rw (le-ltb (b + d) (2 ^ 32) past) (elim (cases_lt (a + c) (2 ^ 32)) [
        | inl some ↦ rw (lt-leb (2 ^ 32) (a + c) some) (omega arith)
        | inr all ↦ rw (le-leb (2 ^ 32) (a + c) all) (omega arith)
      ])
    ]

differences_last : (a b c d m : ℕ) → b < 2 ^ 32 → (difference_interval a b c d m).last < 2 ^ 32
unfolding difference_interval
differences_last a b c d m h =
    elim (cases_lt a d) [
      | inr fit ↦ rw (le-leb d a fit) (omega arith)
      | inl past ↦ rw (lt-leb d a past) (elim (cases_lt b c) [
        | inl all ↦ rw (lt-ltb b c all) (omega arith)
        | inr some ↦ rw (le-ltb b c some) (omega arith)
      ])
    ]

-- the words of an interval whose last is a word
interval_below : (r : StridedInterval) (z : ℕ) → r.step ≤ 2 → r.last < 2 ^ 32 → Among z (interval_words r) → z < 2 ^ 32
interval_below r z small last i = let m = range_among z r.first r.last r.step small i in omega (arith, m.1)

all_words : (z : ℕ) → Among z (interval_words (all_multiples 0)) → z < 2 ^ 32
all_words z i = interval_below (all_multiples 0) z (omega arith) (omega arith) i

bit_word : (z : ℕ) → Among z (0 ∷ 1 ∷ []) → z < 2 ^ 32
bit_word z i = elim i [ inl e ↦ let f : z ≡ 0 = e in omega arith | inr j ↦ elim j [ inl e ↦ let f : z ≡ 1 = e in omega arith | inr n ↦ absurd n ] ]

-- the words of a row are words
row_below : (op : Op) (v w : Val) → IsWellFormed v → IsWellFormed w → (z : ℕ) → Among z (results_by_extents op v w) → z < 2 ^ 32
unfolding results_by_extents result_interval is_comparison
row_below Second v w wv ww z i = members_below w ww z i
row_below Add v w wv ww z i =
    interval_below (sum_interval (least_member v) (greatest_member v) (least_member w) (greatest_member w) (min (step_of_value v) (step_of_value w))) z (interval_of_row_step Add (extent_of_value v) (extent_of_value w) w (bounds_of v wv).small (bounds_of w ww).small)
    (sums_last (least_member v) (greatest_member v) (least_member w) (greatest_member w) (min (step_of_value v) (step_of_value w)) (high_below v wv) (high_below w ww)) i
row_below Sub v w wv ww z i =
    interval_below (difference_interval (least_member v) (greatest_member v) (least_member w) (greatest_member w) (min (step_of_value v) (step_of_value w))) z (interval_of_row_step Sub (extent_of_value v) (extent_of_value w) w (bounds_of v wv).small (bounds_of w ww).small)
    (differences_last (least_member v) (greatest_member v) (least_member w) (greatest_member w) (min (step_of_value v) (step_of_value w)) (high_below v wv)) i
row_below And v w wv ww z i =
    interval_below (interval 0 (min (greatest_member v) (greatest_member w)) (max (step_of_value v) (step_of_value w))) z (interval_of_row_step And (extent_of_value v) (extent_of_value w) w (bounds_of v wv).small (bounds_of w ww).small) (omega (arith, high_below v wv)) i
row_below Eq v w wv ww z i = bit_word z i
row_below Ne v w wv ww z i = bit_word z i
row_below Lt v w wv ww z i = bit_word z i
row_below LtU v w wv ww z i = bit_word z i
row_below Ge v w wv ww z i = bit_word z i
row_below GeU v w wv ww z i = bit_word z i
row_below Sh v w wv ww z i = by_below logical v w wv z i
row_below Sha v w wv ww z i = by_below arithmetic v w wv z i
row_below _ v w wv ww z i = all_words z i

pub results_below : (op : Op) (v w : Val) → IsWellFormed v → IsWellFormed w → (z : ℕ) → Among z (possible_results op v w) → z < 2 ^ 32
unfolding possible_results
results_below op (Set xs) (Set ys) wv ww z i =
    let r = pairs_among op z xs ys i in subst (λ (n : ℕ). n < 2 ^ 32) (sym r.4) (alu_below op r.0 r.1 (wv.below r.0 r.2) (ww.below r.1 r.3))
results_below op (Set xs) (Span lo last s) wv ww z i = row_below op (Set xs) (Span lo last s) wv ww z i
results_below op (Span lo last s) w wv ww z i = row_below op (Span lo last s) w wv ww z i

-- the value of an operation is a value
pub value_of_value : (b : Limits) (op : Op) (v w : Val) → AreLimits b → IsInLattice b v → IsInLattice b w → IsInLattice b (operation_value b op v w)
value_of_value b op v w limits vv vw =
    (cover_least b (possible_results op v w) limits (record { some = some_results op v w vv.well vw.well; below = results_below op v w vv.well vw.well })).value

word_among : (xs : List ℕ) (x : ℕ) → ((k : ℕ) → get_or xs k 0 < 2 ^ 32) → Among x xs → x < 2 ^ 32
word_among xs x below i = let p = among_place xs x i in subst (λ (n : ℕ). n < 2 ^ 32) p.2 (below p.0)

-- the value of a value's members and of the results of words
pub pairs_value : (b : Limits) (v : Val) (op : Op) (xs ys : List ℕ) → AreLimits b → IsInLattice b v → ((k : ℕ) → get_or xs k 0 < 2 ^ 32) → ((k : ℕ) → get_or ys k 0 < 2 ^ 32)
    → IsInLattice b (cover b (members v ++ results_of_pairs op xs ys))
pairs_value b v op xs ys limits value left right =
    cover_value b (members v ++ results_of_pairs op xs ys) (least_member v) limits (append_left (least_member v) (members v) (results_of_pairs op xs ys) (bounds_of v value.well).low_in)
    (λ z i. elim (among_append z (members v) (results_of_pairs op xs ys) i) [
      | inl j ↦ members_below v value.well z j
      | inr j ↦
          let r = pairs_among op z xs ys j in
          subst (λ (n : ℕ). n < 2 ^ 32) (sym r.4) (alu_below op r.0 r.1 (word_among xs r.0 left r.2) (word_among ys r.1 right r.3))
    ])
