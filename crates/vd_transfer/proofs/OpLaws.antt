-- Operations are sound and monotone.
use Rattle.std.proofs.Common.{◌≡◌, ℕ, zero, suc, ◌+◌, ◌-◌, ◌*◌, ◌%◌, ◌^◌, ◌<◌, ◌≤◌, inl, inr, List, [], ◌∷◌, ◌++◌, length, refl, sym, ap, ◌∙◌, subst, arith, min, map, ltb, leb, take, drop, set, replicate, get_or, length-drop, length-append, append_assoc, append-nil, Bool, true, false, not, ◌||◌, eqb, bit_and, bit_or, bit_xor, ◌⊎◌}
use Rattle.std.proofs.lemmas.Bool.{cases_lt, cases_eq, lt-ltb, le-ltb, cases_Bool}
use Rattle.std.proofs.lemmas.List.{take_more, take_more_set, take_all, take-append-drop, get_or-set_same, get_or-set_other, get_or-replicate, length-replicate, length-take, get_or-take, get_or-drop}
use Rattle.std.proofs.Math.ListN.{length-set}
use Rattle.std.proofs.Math.Seq.{take-add}
use Rattle.std.proofs.Math.Nat.{mul-le-mul_right}
use Rattle.std.proofs.Math.Pow.{pow_mono}
use Rattle.std.specs.Int.Bits.{xor_add_and}
use Rattle.std.proofs.lemmas.Nat.{shl_below, shr_le, or_of_32, xor_of_32, and_le_l, and_le_r, le_or_l, le_or_r}
use Rattle.value_domain.specs.declared.values.Val.{Val}
use Rattle.value_domain.specs.declared.values.Val.TheVariants.{Set, Span}
use Rattle.value_domain.specs.Sets.{Among, AreAmong, IsAscending, IsExtent}
use Rattle.value_domain.specs.Limits.{Limits, AreLimits}
use Rattle.value_domain.specs.Values.{IsMember, IsWellFormed, IsInLattice, IsBelow, cover, members, multiples_in_range, span_len, first_member_quotient, least_member, greatest_member, step_of_value}
use Rattle.value_domain.proofs.SetLaws.{length_within}
use Rattle.value_domain.proofs.CoverLaws.{cover-same, cover_holds, cover_mono, cover_own, cover_step, among_member, member_among, has_step, range_among, among_range, rising_multiples, unit_some, length-multiples}
use Rattle.value_domain.specs.declared.lattice.Extent.{Extent}
use Rattle.vd_transfer.specs.declared.strided_interval.StridedInterval.{StridedInterval}
use Rattle.value_domain.proofs.Loops.{among_get}
use Rattle.value_domain.proofs.WordLaws.{among_place}
use Rattle.value_domain.proofs.ExtentLaws.{cover-part, extent_only, extent_rising, append_left, append_right, among_append, some_length}
use Rattle.value_domain.proofs.RangeLaws.{words_more, members_below, some_members, span_count, set_value, cover-one}
use Rattle.tc_isa.specs.declared.shapes.Op.{Op}
use Rattle.tc_isa.specs.declared.shapes.Op.TheVariants.{Second, Add, Sub, And, Nand, Or, Nor, Xor, Xnor, Andn, Orn, Eq, Ne, Lt, LtU, Ge, GeU, Sh, Sha}
use Rattle.tc_isa.specs.Arithmetic.{alu_of, logical_shift, arithmetic_shift, complement, word_of_bool, signed_rank}
use Rattle.vd_transfer.specs.Operations.{possible_results, results_by_extents, results_of_pairs, is_comparison, operation_value, HasMembers}
use Rattle.vd_transfer.specs.Intervals.{all_multiples, words_of_all_multiples, result_interval, extent_of_value, shifted_interval, IntervalShift, difference_interval, sum_interval, logical_shift_interval, arithmetic_shift_interval, interval_words}
use Rattle.vd_transfer.specs.OperationLaws.{OperationsAreMonotone, OperationsAreSound}
use Rattle.vd_transfer.proofs.Rows.{Lies, sums_have, sums_grow, differences_have, differences_grow, ands_have, ands_grow, shifts_have, shifts_grow, shifts_below}

-- ---- the bounds of a value
pub rising_members : (v : Val) → IsWellFormed v → IsAscending (members v)
rising_members (Set ws) w = w.rising
rising_members (Span lo last s) w = rising_multiples (span_len lo last s) (first_member_quotient lo s) (2 ^ s) (unit_some s)

pub bounds_of : (v : Val) → IsWellFormed v → IsExtent (members v) (least_member v) (greatest_member v) (step_of_value v)
bounds_of v w = extent_rising (members v) (rising_members v w) (some_members v w)

pub high_below : (v : Val) → IsWellFormed v → greatest_member v < 2 ^ 32
high_below v w = members_below v w (greatest_member v) (bounds_of v w).high_in

pub lies : (v : Val) → IsWellFormed v → (x : ℕ) → Among x (members v) → Lies x (least_member v) (greatest_member v) (step_of_value v)
lies v w x i = let e = bounds_of v w in record { from = e.low x i; to = e.high x i; fits = e.fits x i }

-- the bounds of a smaller value are inside
pub record Narrower (v v2 : Val) : Type 0 where
  pub low_in : least_member v2 ≤ least_member v
  pub high_in : greatest_member v ≤ greatest_member v2
  pub step_in : step_of_value v2 ≤ step_of_value v

pub narrower : (v v2 : Val) → IsWellFormed v → IsWellFormed v2 → AreAmong (members v) (members v2) → Narrower v v2
narrower v v2 w w2 there =
    let e = bounds_of v w in
    let f = bounds_of v2 w2 in
    record {
      low_in = f.low (least_member v) (there (least_member v) e.low_in);
      high_in = f.high (greatest_member v) (there (greatest_member v) e.high_in);
      step_in = e.full (step_of_value v2) f.small (λ z i. f.fits z (there z i));
    }

pub low_high : (v : Val) → IsWellFormed v → least_member v ≤ greatest_member v
low_high v w = let e = bounds_of v w in e.low (greatest_member v) e.high_in

-- ---- Sound
all_have : (x : ℕ) → x < 2 ^ 32 → Among x (words_of_all_multiples 0)
all_have x h = among_range x 0 (2 ^ 32 - 1) 0 (omega arith) (omega arith, omega arith, omega arith)

-- what is known of a kind of shifts: they hold the shifted words, grow with the bounds, and give
-- words below 2 ^ 32
pub record AreShifts (shift : IntervalShift) (by : ℕ → ℕ → ℕ) : Type 0 where
  pub have : (x a b p n : ℕ) → p ≤ 2 → Lies x a b p → b < 2 ^ 32 → Among (by x n) (interval_words (shift a b p n))
  pub grow : (a b p n a2 b2 p2 : ℕ) → p ≤ 2 → b < 2 ^ 32 → a2 ≤ a → b ≤ b2 → p2 ≤ p → AreAmong (interval_words (shift a b p n)) (interval_words (shift a2 b2 p2 n))
  pub below : (a b p n z : ℕ) → p ≤ 2 → b < 2 ^ 32 → Among z (interval_words (shift a b p n)) → z < 2 ^ 32
  pub word : (x n : ℕ) → x < 2 ^ 32 → by x n < 2 ^ 32
  pub small : (a b p n : ℕ) → (shift a b p n).step ≤ 2

shifted_below : (x n : ℕ) → x < 2 ^ 32 → logical_shift x n < 2 ^ 32
shifted_below x n h =
    elim (cases_lt n 32) [
      | inl left ↦ rw (lt-ltb n 32 left) (omega arith)
      | inr right ↦ rw (le-ltb n 32 right) (omega (arith, shr_le x (64 - n)))
    ]

shifts_step : (a b p n : ℕ) → (logical_shift_interval a b p n).step ≤ 2
unfolding logical_shift_interval
shifts_step a b p n =
    elim (cases_Bool (ltb n 32)) [
      | inl t ↦ rw t (elim (cases_Bool (ltb (b * 2 ^ n) (2 ^ 32))) [ inl u ↦ rw u (omega arith) | inr u ↦ rw u (omega arith) ])
      | inr t ↦ rw t (omega arith)
    ]

pub logical : AreShifts logical_shift_interval logical_shift
logical = record {
  have = shifts_have;
  grow = λ a b p n a2 b2 p2 small bb la hb hp. shifts_grow a b p n a2 b2 p2 small la hb hp;
  below = shifts_below;
  word = shifted_below;
  small = shifts_step;
}

-- a shift to the left, and one of a word without the sign bit, is filled with zeros
same_left : (x n : ℕ) → n < 32 → arithmetic_shift x n ≡ logical_shift x n
same_left x n h = rw (lt-ltb n 32 h) refl

same_right : (x n : ℕ) → 32 ≤ n → x < 2 ^ 31 → arithmetic_shift x n ≡ logical_shift x n
same_right x n h small = rw (le-ltb n 32 h, lt-ltb x (2 ^ 31) small) refl

signed_word : (x n : ℕ) → x < 2 ^ 32 → arithmetic_shift x n < 2 ^ 32
signed_word x n h =
    elim (cases_lt n 32) [
      | inl left ↦ rw (same_left x n left) (shifted_below x n h)
      | inr right ↦ elim (cases_lt x (2 ^ 31)) [
        | inl small ↦ rw (same_right x n right small) (shifted_below x n h)
        | inr big ↦ rw (le-ltb n 32 right, le-ltb x (2 ^ 31) big) (omega arith)
      ]
    ]

-- the two forms of a signed shift's interval
as_logical : (a b p n : ℕ) → (n < 32) ⊎ (b < 2 ^ 31) → arithmetic_shift_interval a b p n ≡ logical_shift_interval a b p n
unfolding arithmetic_shift_interval
as_logical a b p n h = elim h [ inl left ↦ rw (lt-ltb n 32 left) refl | inr small ↦ rw (lt-ltb b (2 ^ 31) small, or_true (ltb n 32)) refl ]
  where
    or_true : (c : Bool) → (c || true) ≡ true
    or_true true = refl
    or_true false = refl

as_any : (a b p n : ℕ) → 32 ≤ n → 2 ^ 31 ≤ b → arithmetic_shift_interval a b p n ≡ all_multiples 0
unfolding arithmetic_shift_interval
as_any a b p n right big = rw (le-ltb n 32 right, le-ltb b (2 ^ 31) big) refl

pub arithmetic : AreShifts arithmetic_shift_interval arithmetic_shift
arithmetic = record {
  have = λ x a b p n small l bb.
      elim (cases_lt n 32) [
        | inl left ↦ rw (as_logical a b p n (inl left), same_left x n left) (shifts_have x a b p n small l bb)
        | inr right ↦ elim (cases_lt b (2 ^ 31)) [
          | inl low ↦ rw (as_logical a b p n (inr low), same_right x n right (omega (arith, l.to))) (shifts_have x a b p n small l bb)
          | inr big ↦ rw (as_any a b p n right big) (all_have (arithmetic_shift x n) (signed_word x n (omega (arith, l.to))))
        ]
      ];
  grow = λ a b p n a2 b2 p2 small bb la hb hp.
      elim (cases_lt n 32) [
        | inl left ↦ rw (as_logical a b p n (inl left), as_logical a2 b2 p2 n (inl left)) (shifts_grow a b p n a2 b2 p2 small la hb hp)
        | inr right ↦ elim (cases_lt b2 (2 ^ 31)) [
          | inl low2 ↦ rw (as_logical a b p n (inr (omega arith)), as_logical a2 b2 p2 n (inr low2)) (shifts_grow a b p n a2 b2 p2 small la hb hp)
          | inr big2 ↦ rw (as_any a2 b2 p2 n right big2) (λ z i. all_have z (signed_below a b p n z small bb i))
        ]
      ];
  below = signed_below;
  word = signed_word;
  small = λ a b p n.
      elim (cases_lt n 32) [
        | inl left ↦ rw (as_logical a b p n (inl left)) (shifts_step a b p n)
        | inr right ↦ elim (cases_lt b (2 ^ 31)) [
          | inl low ↦ rw (as_logical a b p n (inr low)) (shifts_step a b p n)
          | inr big ↦ rw (as_any a b p n right big) (omega arith)
        ]
      ];
}
  where
    signed_below : (a b p n z : ℕ) → p ≤ 2 → b < 2 ^ 32 → Among z (interval_words (arithmetic_shift_interval a b p n)) → z < 2 ^ 32
    signed_below a b p n z small bb i =
        elim (cases_lt n 32) [
          | inl left ↦ shifts_below a b p n z small bb (rw (as_logical a b p n (inl left)) at i)
          | inr right ↦ elim (cases_lt b (2 ^ 31)) [
            | inl low ↦ shifts_below a b p n z small bb (rw (as_logical a b p n (inr low)) at i)
            | inr big ↦ let m = range_among z 0 (2 ^ 32 - 1) 0 (omega arith) (rw (as_any a b p n right big) at i) in omega (arith, m.1)
          ]
        ]

by_value : {shift : IntervalShift} {by : ℕ → ℕ → ℕ} (are : AreShifts shift by) (v w : Val) → IsWellFormed v → IsWellFormed w → (x y : ℕ) → Among x (members v) → Among y (members w)
    → Among (by x (y % 64)) (interval_words (shifted_interval shift (least_member v) (greatest_member v) (step_of_value v) w))
by_value are v (Set []) wv ww x y i j = absurd j
by_value {shift} {by} are v (Set (w ∷ [])) wv ww x y i j =
    elim j [
      | inl e ↦
          subst (λ (n : ℕ). Among (by x (n % 64)) (interval_words (shift (least_member v) (greatest_member v) (step_of_value v) (w % 64)))) (sym e)
          (are.have x (least_member v) (greatest_member v) (step_of_value v) (w % 64) (bounds_of v wv).small (lies v wv x i) (high_below v wv))
      | inr n ↦ absurd n
    ]
by_value {shift} {by} are v (Set (w ∷ u ∷ us)) wv ww x y i j = all_have (by x (y % 64)) (are.word x (y % 64) (members_below v wv x i))
by_value {shift} {by} are v (Span lo last s) wv ww x y i j = all_have (by x (y % 64)) (are.word x (y % 64) (members_below v wv x i))

truth_among : (b : Bool) → Among (word_of_bool b) (0 ∷ 1 ∷ [])
truth_among true = inr (inl refl)
truth_among false = inl refl

pub complement_below : (x : ℕ) → complement x < 2 ^ 32
complement_below x = omega arith

pub and_below : (x y : ℕ) → x < 2 ^ 32 → bit_and x y < 2 ^ 32
and_below x y h = omega (arith, and_le_l x y)

pub row_has : (op : Op) (v w : Val) → IsWellFormed v → IsWellFormed w → (x y : ℕ) → Among x (members v) → Among y (members w) → Among (alu_of op x y) (results_by_extents op v w)
unfolding results_by_extents result_interval is_comparison alu_of
row_has Second v w wv ww x y i j = j
row_has Add v w wv ww x y i j =
    let l = lies v wv x i in
    let k = lies w ww y j in
    let e = bounds_of v wv in
    let f = bounds_of w ww in
    sums_have x y (least_member v) (greatest_member v) (least_member w) (greatest_member w) (min (step_of_value v) (step_of_value w)) (omega (arith, e.small))
    (record { from = l.from; to = l.to; fits = omega (arith, l.fits) })
    (record { from = k.from; to = k.to; fits = omega (arith, k.fits) })
    (high_below v wv) (high_below w ww)
row_has Sub v w wv ww x y i j =
    let l = lies v wv x i in
    let k = lies w ww y j in
    let e = bounds_of v wv in
    let f = bounds_of w ww in
    differences_have x y (least_member v) (greatest_member v) (least_member w) (greatest_member w) (min (step_of_value v) (step_of_value w)) (omega (arith, e.small))
    (record { from = l.from; to = l.to; fits = omega (arith, l.fits) })
    (record { from = k.from; to = k.to; fits = omega (arith, k.fits) })
    (high_below v wv) (high_below w ww)
row_has And v w wv ww x y i j =
    let l = lies v wv x i in
    let k = lies w ww y j in
    ands_have x y (greatest_member v) (greatest_member w) (step_of_value v) (step_of_value w) (bounds_of v wv).small (bounds_of w ww).small l.to k.to l.fits k.fits
row_has Nand v w wv ww x y i j = all_have (complement (bit_and x y)) (complement_below (bit_and x y))
row_has Or v w wv ww x y i j = all_have (bit_or x y) (or_of_32 x y (members_below v wv x i) (members_below w ww y j))
row_has Nor v w wv ww x y i j = all_have (complement (bit_or x y)) (complement_below (bit_or x y))
row_has Xor v w wv ww x y i j = all_have (bit_xor x y) (xor_of_32 x y (members_below v wv x i) (members_below w ww y j))
row_has Xnor v w wv ww x y i j = all_have (complement (bit_xor x y)) (complement_below (bit_xor x y))
row_has Andn v w wv ww x y i j = all_have (bit_and x (complement y)) (and_below x (complement y) (members_below v wv x i))
row_has Orn v w wv ww x y i j = all_have (bit_or x (complement y)) (or_of_32 x (complement y) (members_below v wv x i) (complement_below y))
row_has Eq v w wv ww x y i j = truth_among (eqb x y)
row_has Ne v w wv ww x y i j = truth_among (not (eqb x y))
row_has Lt v w wv ww x y i j = truth_among (ltb (signed_rank x) (signed_rank y))
row_has LtU v w wv ww x y i j = truth_among (ltb x y)
row_has Ge v w wv ww x y i j = truth_among (leb (signed_rank y) (signed_rank x))
row_has GeU v w wv ww x y i j = truth_among (leb y x)
row_has Sh v w wv ww x y i j = by_value logical v w wv ww x y i j
row_has Sha v w wv ww x y i j = by_value arithmetic v w wv ww x y i j

among_map : (op : Op) (x y : ℕ) (ys : List ℕ) → Among y ys → Among (alu_of op x y) (map (alu_of op x) ys)
among_map op x y [] i = absurd i
among_map op x y (z ∷ ys) i = elim i [ inl e ↦ inl (ap (alu_of op x) e) | inr j ↦ inr (among_map op x y ys j) ]

map_among : (op : Op) (x z : ℕ) (ys : List ℕ) → Among z (map (alu_of op x) ys) → (y : ℕ) × Among y ys × (z ≡ alu_of op x y)
map_among op x z [] i = absurd i
map_among op x z (y ∷ ys) i = elim i [ inl e ↦ (y, inl refl, e) | inr j ↦ let r = map_among op x z ys j in (r.0, inr r.1, r.2) ]

pub pairs_have : (op : Op) (x y : ℕ) (xs ys : List ℕ) → Among x xs → Among y ys → Among (alu_of op x y) (results_of_pairs op xs ys)
unfolding results_of_pairs
pairs_have op x y [] ys i j = absurd i
pairs_have op x y (w ∷ xs) ys i j =
    elim i [
      | inl e ↦ append_left (alu_of op x y) (map (alu_of op w) ys) (results_of_pairs op xs ys) (subst (λ (v : ℕ). Among (alu_of op x y) (map (alu_of op v) ys)) e (among_map op x y ys j))
      | inr k ↦ append_right (alu_of op x y) (map (alu_of op w) ys) (results_of_pairs op xs ys) (pairs_have op x y xs ys k j)
    ]

pub pairs_among : (op : Op) (z : ℕ) (xs ys : List ℕ) → Among z (results_of_pairs op xs ys) → (x : ℕ) × (y : ℕ) × Among x xs × Among y ys × (z ≡ alu_of op x y)
unfolding results_of_pairs
pairs_among op z [] ys i = absurd i
pairs_among op z (w ∷ xs) ys i =
    elim (among_append z (map (alu_of op w) ys) (results_of_pairs op xs ys) i) [
      | inl j ↦ let r = map_among op w z ys j in (w, r.0, inl refl, r.1, r.2)
      | inr j ↦ let r = pairs_among op z xs ys j in (r.0, r.1, inr r.2, r.3, r.4)
    ]

pub results_have : (op : Op) (v w : Val) → IsWellFormed v → IsWellFormed w → (x y : ℕ) → Among x (members v) → Among y (members w) → Among (alu_of op x y) (possible_results op v w)
unfolding possible_results
results_have op (Set xs) (Set ys) wv ww x y i j = pairs_have op x y xs ys i j
results_have op (Set xs) (Span lo last s) wv ww x y i j = row_has op (Set xs) (Span lo last s) wv ww x y i j
results_have op (Span lo last s) w wv ww x y i j = row_has op (Span lo last s) w wv ww x y i j

pub sound : OperationsAreSound
sound b op v w limits vv vw x y m n =
    cover_holds b (possible_results op v w) (alu_of op x y)
    (results_have op v w vv.well vw.well x y (among_member v x (has_step v vv.well) m) (among_member w y (has_step w vw.well) n))

-- ---- Monotone
-- a cover is below another that holds its set
pub cover_below : (b : Limits) (xs ys : List ℕ) → 1 ≤ length xs → 1 ≤ length ys → ((z : ℕ) → Among z xs → IsMember z (cover b ys)) → IsBelow (cover b xs) (cover b ys)
cover_below b xs ys some_x some_y there z m =
    rw (cover_own b ys some_y) at (cover_mono b xs (members (cover b ys)) some_x (λ x i. among_member (cover b ys) x (cover_step b ys) (there x i)) z m)

-- a Span isn't below a Set
pub span_not_below : (b : Limits) (lo last s : ℕ) (ws : List ℕ) → IsInLattice b (Span lo last s) → IsInLattice b (Set ws) → IsBelow (Span lo last s) (Set ws) → ⊥
span_not_below b lo last s ws vs vw below =
    let shorter : length (multiples_in_range lo last s) ≤ length ws =
    length_within (multiples_in_range lo last s) ws (rising_members (Span lo last s) vs.well) vw.well.rising (λ z i. below z (range_among z lo last s vs.well.0 i))
    in
    let few : length ws ≤ b.most_words = (set_value b ws vw.well).1 vw in
    absurd (omega (arith, span_count b lo last s vs, length-multiples (span_len lo last s) (first_member_quotient lo s) (2 ^ s)))

into_all : (xs : List ℕ) → ((z : ℕ) → Among z xs → z < 2 ^ 32) → AreAmong xs (words_of_all_multiples 0)
into_all xs below z i = all_have z (below z i)

all_below : (z s : ℕ) → s ≤ 2 → Among z (words_of_all_multiples s) → z < 2 ^ 32
all_below z s small i = let m = range_among z 0 (2 ^ 32 - 1) s small i in omega (arith, m.1)

pub by_below : {shift : IntervalShift} {by : ℕ → ℕ → ℕ} (are : AreShifts shift by) (v w : Val) → IsWellFormed v → (z : ℕ) → Among z (interval_words (shifted_interval shift (least_member v) (greatest_member v) (step_of_value v) w)) → z < 2 ^ 32
by_below are v (Set (y ∷ [])) wv z i = are.below (least_member v) (greatest_member v) (step_of_value v) (y % 64) z (bounds_of v wv).small (high_below v wv) i
by_below are v _ wv z i = all_below z 0 (omega arith) i

by_one : {shift : IntervalShift} {by : ℕ → ℕ → ℕ} (are : AreShifts shift by) (b : Limits) (v w v2 : Val) (y : ℕ) → IsInLattice b v → IsInLattice b w → IsInLattice b v2 → IsInLattice b (Set (y ∷ []))
    → AreAmong (members v) (members v2) → AreAmong (members w) (y ∷ [])
    → AreAmong (interval_words (shifted_interval shift (least_member v) (greatest_member v) (step_of_value v) w)) (interval_words (shifted_interval shift (least_member v2) (greatest_member v2) (step_of_value v2) (Set (y ∷ []))))
by_one are b v (Set []) v2 y vv vw vv2 vy there here = absurd (omega (arith, vw.well.some))
by_one are b v (Set (u ∷ [])) v2 y vv vw vv2 vy there here =
    let e : u ≡ y = elim (here u (inl refl)) [ inl e ↦ e | inr n ↦ absurd n ] in
    let n = narrower v v2 vv.well vv2.well there in
    rw e (are.grow (least_member v) (greatest_member v) (step_of_value v) (y % 64) (least_member v2) (greatest_member v2) (step_of_value v2) (bounds_of v vv.well).small (high_below v vv.well) n.low_in n.high_in n.step_in)
by_one are b v (Set (u ∷ t ∷ us)) v2 y vv vw vv2 vy there here =
    let e : u ≡ y = elim (here u (inl refl)) [ inl e ↦ e | inr n ↦ absurd n ] in
    let f : t ≡ y = elim (here t (inr (inl refl))) [ inl e ↦ e | inr n ↦ absurd n ] in
    let g : u < t = vw.well.rising.0 t (inl refl) in
    absurd (omega arith)
by_one are b v (Span lo last s) v2 y vv vw vv2 vy there here =
    absurd (span_not_below b lo last s (y ∷ []) vw vy (λ z m. here z (among_member (Span lo last s) z vw.well.0 m)))

by_grows : {shift : IntervalShift} {by : ℕ → ℕ → ℕ} (are : AreShifts shift by) (b : Limits) (v w v2 w2 : Val) → IsInLattice b v → IsInLattice b w → IsInLattice b v2 → IsInLattice b w2
    → AreAmong (members v) (members v2) → AreAmong (members w) (members w2)
    → AreAmong (interval_words (shifted_interval shift (least_member v) (greatest_member v) (step_of_value v) w)) (interval_words (shifted_interval shift (least_member v2) (greatest_member v2) (step_of_value v2) w2))
by_grows are b v w v2 (Set []) vv vw vv2 vw2 there here = absurd (omega (arith, vw2.well.some))
by_grows are b v w v2 (Set (y ∷ [])) vv vw vv2 vw2 there here = by_one are b v w v2 y vv vw vv2 vw2 there here
by_grows {shift} are b v w v2 (Set (y ∷ u ∷ ys)) vv vw vv2 vw2 there here = into_all (interval_words (shifted_interval shift (least_member v) (greatest_member v) (step_of_value v) w)) (by_below are v w vv.well)
by_grows {shift} are b v w v2 (Span lo last s) vv vw vv2 vw2 there here = into_all (interval_words (shifted_interval shift (least_member v) (greatest_member v) (step_of_value v) w)) (by_below are v w vv.well)

pub row_grows : (b : Limits) (op : Op) (v w v2 w2 : Val) → IsInLattice b v → IsInLattice b w → IsInLattice b v2 → IsInLattice b w2 → AreAmong (members v) (members v2) → AreAmong (members w) (members w2)
    → AreAmong (results_by_extents op v w) (results_by_extents op v2 w2)
unfolding results_by_extents result_interval is_comparison
row_grows b Second v w v2 w2 vv vw vv2 vw2 there here = here
row_grows b Add v w v2 w2 vv vw vv2 vw2 there here =
    let n = narrower v v2 vv.well vv2.well there in
    let m = narrower w w2 vw.well vw2.well here in
    sums_grow (least_member v) (greatest_member v) (least_member w) (greatest_member w) (min (step_of_value v) (step_of_value w)) (least_member v2) (greatest_member v2) (least_member w2) (greatest_member w2) (min (step_of_value v2) (step_of_value w2))
    (omega (arith, (bounds_of v vv.well).small)) (omega (arith, n.step_in, m.step_in)) (low_high v vv.well) (low_high w vw.well) n.low_in n.high_in m.low_in m.high_in
    (high_below v2 vv2.well) (high_below w2 vw2.well)
row_grows b Sub v w v2 w2 vv vw vv2 vw2 there here =
    let n = narrower v v2 vv.well vv2.well there in
    let m = narrower w w2 vw.well vw2.well here in
    differences_grow (least_member v) (greatest_member v) (least_member w) (greatest_member w) (min (step_of_value v) (step_of_value w)) (least_member v2) (greatest_member v2) (least_member w2) (greatest_member w2) (min (step_of_value v2) (step_of_value w2))
    (omega (arith, (bounds_of v vv.well).small)) (omega (arith, n.step_in, m.step_in)) (low_high v vv.well) (low_high w vw.well) n.low_in n.high_in m.low_in m.high_in
    (high_below v2 vv2.well) (high_below w2 vw2.well)
row_grows b And v w v2 w2 vv vw vv2 vw2 there here =
    let n = narrower v v2 vv.well vv2.well there in
    let m = narrower w w2 vw.well vw2.well here in
    ands_grow (greatest_member v) (greatest_member w) (step_of_value v) (step_of_value w) (greatest_member v2) (greatest_member w2) (step_of_value v2) (step_of_value w2) (bounds_of v vv.well).small (bounds_of w vw.well).small n.high_in m.high_in n.step_in m.step_in
row_grows b Sh v w v2 w2 vv vw vv2 vw2 there here = by_grows logical b v w v2 w2 vv vw vv2 vw2 there here
row_grows b Sha v w v2 w2 vv vw vv2 vw2 there here = by_grows arithmetic b v w v2 w2 vv vw vv2 vw2 there here
row_grows b _ v w v2 w2 vv vw vv2 vw2 there here = λ z i. i

-- the results aren't none
pub some_results : (op : Op) (v w : Val) → IsWellFormed v → IsWellFormed w → 1 ≤ length (possible_results op v w)
some_results op v w wv ww =
    some_length (possible_results op v w) (alu_of op (least_member v) (least_member w)) (results_have op v w wv ww (least_member v) (least_member w) (bounds_of v wv).low_in (bounds_of w ww).low_in)

pub within_members : (b : Limits) (v w : Val) → IsInLattice b v → IsInLattice b w → IsBelow v w → AreAmong (members v) (members w)
within_members b v w vv vw below z i = among_member w z (has_step w vw.well) (below z (member_among v z (has_step v vv.well) i))

-- if both are Sets, each result is a result of the larger pair
sets_below : (b : Limits) (op : Op) (xs ys : List ℕ) (v2 w2 : Val) → IsInLattice b (Set xs) → IsInLattice b (Set ys) → IsInLattice b v2 → IsInLattice b w2
    → IsBelow (Set xs) v2 → IsBelow (Set ys) w2 → IsBelow (operation_value b op (Set xs) (Set ys)) (operation_value b op v2 w2)
unfolding possible_results
sets_below b op xs ys v2 w2 vv vw vv2 vw2 there here =
    cover_below b (results_of_pairs op xs ys) (possible_results op v2 w2) (some_results op (Set xs) (Set ys) vv.well vw.well) (some_results op v2 w2 vv2.well vw2.well)
    (λ z i.
    let r = pairs_among op z xs ys i in
    subst (λ (n : ℕ). IsMember n (cover b (possible_results op v2 w2))) (sym r.4)
    (cover_holds b (possible_results op v2 w2) (alu_of op r.0 r.1)
    (results_have op v2 w2 vv2.well vw2.well r.0 r.1 (within_members b (Set xs) v2 vv vv2 there r.0 r.2) (within_members b (Set ys) w2 vw vw2 here r.1 r.3))))

-- if one is a Span, its larger value is one too
rows_below : (b : Limits) (op : Op) (v w v2 w2 : Val) → IsInLattice b v → IsInLattice b w → IsInLattice b v2 → IsInLattice b w2 → IsBelow v v2 → IsBelow w w2
    → possible_results op v w ≡ results_by_extents op v w → possible_results op v2 w2 ≡ results_by_extents op v2 w2 → IsBelow (operation_value b op v w) (operation_value b op v2 w2)
rows_below b op v w v2 w2 vv vw vv2 vw2 there here e f =
    cover_mono b (possible_results op v w) (possible_results op v2 w2) (some_results op v w vv.well vw.well)
    (rw (e, f) (row_grows b op v w v2 w2 vv vw vv2 vw2 (within_members b v v2 vv vv2 there) (within_members b w w2 vw vw2 here)))

pub monotone : OperationsAreMonotone
unfolding possible_results
monotone b op (Set xs) (Set ys) v2 w2 limits vv vw vv2 vw2 there here = sets_below b op xs ys v2 w2 vv vw vv2 vw2 there here
monotone b op (Set xs) (Span lo last s) v2 (Set ys) limits vv vw vv2 vw2 there here = absurd (span_not_below b lo last s ys vw vw2 here)
monotone b op (Set xs) (Span lo last s) (Set xs2) (Span lo2 last2 s2) limits vv vw vv2 vw2 there here =
    rows_below b op (Set xs) (Span lo last s) (Set xs2) (Span lo2 last2 s2) vv vw vv2 vw2 there here refl refl
monotone b op (Set xs) (Span lo last s) (Span l h t) (Span lo2 last2 s2) limits vv vw vv2 vw2 there here =
    rows_below b op (Set xs) (Span lo last s) (Span l h t) (Span lo2 last2 s2) vv vw vv2 vw2 there here refl refl
monotone b op (Span lo last s) w (Set xs) w2 limits vv vw vv2 vw2 there here = absurd (span_not_below b lo last s xs vv vv2 there)
monotone b op (Span lo last s) w (Span lo2 last2 s2) w2 limits vv vw vv2 vw2 there here =
    rows_below b op (Span lo last s) w (Span lo2 last2 s2) w2 vv vw vv2 vw2 there here refl refl

-- ---- the Rust bodies
-- the extents of values are their bounds
pub same_bounds : (e : Extent) (v : Val) → IsWellFormed v → IsExtent (members v) e.least e.greatest e.step → e ≡ extent_of_value v
same_bounds e v w h =
    let only = extent_only (members v) h (bounds_of v w) in
    ap (λ n. record { least = n; greatest = e.greatest; step = e.step }) only.0
    ∙ ap (λ n. record { least = least_member v; greatest = n; step = e.step }) only.1
    ∙ ap (λ n. record { least = least_member v; greatest = greatest_member v; step = n }) only.2

pub row_intervals : (op : Op) (v w : Val) (e f : Extent) → (op ≡ Second → ⊥) → is_comparison op ≡ false → e ≡ extent_of_value v → f ≡ extent_of_value w → interval_words (result_interval op e f w) ≡ results_by_extents op v w
unfolding results_by_extents is_comparison
row_intervals Second v w e f n t a c = absurd (n refl)
row_intervals Eq v w e f n t a c = cc
row_intervals Ne v w e f n t a c = cc
row_intervals Lt v w e f n t a c = cc
row_intervals LtU v w e f n t a c = cc
row_intervals Ge v w e f n t a c = cc
row_intervals GeU v w e f n t a c = cc
row_intervals _ v w e f n t a c = rw (a, c) refl

sums_step : (a b c d m : ℕ) → (sum_interval a b c d m).step ≡ m
unfolding sum_interval
sums_step a b c d m =
    elim (cases_Bool (ltb (b + d) (2 ^ 32))) [
      | inl t ↦ rw t refl
      | inr f ↦ rw f (elim (cases_Bool (leb (2 ^ 32) (a + c))) [ inl t ↦ rw t refl | inr g ↦ rw g refl ])
    ]

differences_step : (a b c d m : ℕ) → (difference_interval a b c d m).step ≡ m
unfolding difference_interval
differences_step a b c d m =
    elim (cases_Bool (leb d a)) [
      | inl t ↦ rw t refl
      | inr f ↦ rw f (elim (cases_Bool (ltb b c)) [ inl t ↦ rw t refl | inr g ↦ rw g refl ])
    ]

by_count_step : {shift : IntervalShift} {by : ℕ → ℕ → ℕ} (are : AreShifts shift by) (a b p : ℕ) (w : Val) → (shifted_interval shift a b p w).step ≤ 2
by_count_step are a b p (Set (y ∷ [])) = are.small a b p (y % 64)
by_count_step are a b p _ = omega arith

pub interval_of_row_step : (op : Op) (e f : Extent) (w : Val) → e.step ≤ 2 → f.step ≤ 2 → (result_interval op e f w).step ≤ 2
unfolding result_interval
interval_of_row_step Add e f w a b = omega (arith, sums_step e.least e.greatest f.least f.greatest (min e.step f.step))
interval_of_row_step Sub e f w a b = omega (arith, differences_step e.least e.greatest f.least f.greatest (min e.step f.step))
interval_of_row_step Sh e f w a b = by_count_step logical e.least e.greatest e.step w
interval_of_row_step Sha e f w a b = by_count_step arithmetic e.least e.greatest e.step w
interval_of_row_step _ e f w a b = omega arith

-- the interval that a row covers isn't empty
pub interval_some : (r : StridedInterval) (op : Op) (v w : Val) → IsWellFormed v → IsWellFormed w → interval_words r ≡ results_by_extents op v w → 1 ≤ span_len r.first r.last r.step
interval_some r op v w wv ww e =
    let i = row_has op v w wv ww (least_member v) (least_member w) (bounds_of v wv).low_in (bounds_of w ww).low_in in
    let j : Among (alu_of op (least_member v) (least_member w)) (interval_words r) = rw e i in
    omega (arith, some_length (interval_words r) (alu_of op (least_member v) (least_member w)) j, length-multiples (span_len r.first r.last r.step) (first_member_quotient r.first r.step) (2 ^ r.step))

pub row-Second : (b : Limits) (v w : Val) → IsInLattice b w → w ≡ cover b (results_by_extents Second v w)
unfolding results_by_extents
row-Second b v w value = sym value.own

pub row-truth : (b : Limits) (op : Op) (v w : Val) → is_comparison op ≡ true → cover b (0 ∷ 1 ∷ []) ≡ cover b (results_by_extents op v w)
unfolding results_by_extents is_comparison
row-truth b Eq v w t = refl
row-truth b Ne v w t = refl
row-truth b Lt v w t = refl
row-truth b LtU v w t = refl
row-truth b Ge v w t = refl
row-truth b GeU v w t = refl
row-truth b _ v w t = cc

map_at : (op : Op) (x i : ℕ) (ys : List ℕ) → i < length ys → get_or (map (alu_of op x) ys) i 0 ≡ alu_of op x (get_or ys i 0)
map_at op x i [] h = absurd (omega arith)
map_at op x zero (y ∷ ys) h = refl
map_at op x (suc i) (y ∷ ys) h = map_at op x i ys (omega arith)

pub map_length : (op : Op) (x : ℕ) (ys : List ℕ) → length (map (alu_of op x) ys) ≡ length ys
map_length op x [] = refl
map_length op x (y ∷ ys) = ap suc (map_length op x ys)

-- a row that is filled word by word
pub row_next : (op : Op) (x i : ℕ) (ys row : List ℕ) → i < length ys → take i row ≡ take i (map (alu_of op x) ys) → length row ≡ length ys
    → (take (i + 1) (set row i (alu_of op x (get_or ys i 0))) ≡ take (i + 1) (map (alu_of op x) ys)) × (length (set row i (alu_of op x (get_or ys i 0))) ≡ length ys)
row_next op x i ys row h e len = (
  take_more_set row i (alu_of op x (get_or ys i 0)) (omega arith)
      ∙ ap (λ (l : List ℕ). l ++ alu_of op x (get_or ys i 0) ∷ []) e
      ∙ ap (λ (n : ℕ). take i (map (alu_of op x) ys) ++ n ∷ []) (sym (map_at op x i ys h))
      ∙ sym (take_more (map (alu_of op x) ys) i 0 (omega (arith, map_length op x ys))),
  simp length-set len,
)

pub row_whole : (op : Op) (x i : ℕ) (ys row : List ℕ) → length ys ≤ i → take i row ≡ take i (map (alu_of op x) ys) → length row ≡ length ys → row ≡ map (alu_of op x) ys
row_whole op x i ys row h e len =
    sym (take_all i row (omega arith)) ∙ e ∙ take_all i (map (alu_of op x) ys) (omega (arith, map_length op x ys))

-- the results of one word with many
pub results_more : (b : Limits) (v out : Val) (op : Op) (x i : ℕ) (ys : List ℕ) → IsWellFormed v → i < length ys
    → out ≡ cover b (members v ++ take i (map (alu_of op x) ys)) → cover b (alu_of op x (get_or ys i 0) ∷ members out) ≡ cover b (members v ++ take (i + 1) (map (alu_of op x) ys))
results_more b v out op x i ys well h e =
    let at : get_or (map (alu_of op x) ys) i 0 ≡ alu_of op x (get_or ys i 0) = map_at op x i ys h in
    let more = words_more b v out (map (alu_of op x) ys) i well (omega (arith, map_length op x ys)) e in
    rw (at) at more

-- ---- words that were met lately
-- what a value has stays when words are added to it
stays : (b : Limits) (v : Val) (xs : List ℕ) (y : ℕ) → IsWellFormed v → AreAmong (members v) xs → IsMember y v → IsMember y (cover b xs)
stays b v xs y well there m = cover_holds b xs y (there y (among_member v y (has_step v well) m))

pub met_more : (b : Limits) (v : Val) (ms : List ℕ) (k z : ℕ) → IsWellFormed v → k < length ms → HasMembers v ms → HasMembers (cover b (z ∷ members v)) (set ms k z)
met_more b v ms k z well h met i lt =
    elim (cases_eq i k) [
      | inl same ↦
          let here : get_or (set ms k z) i 0 ≡ z = rw same (get_or-set_same ms k z 0 h) in
          rw here (cover_holds b (z ∷ members v) z (inl refl))
      | inr other ↦
          let there : get_or (set ms k z) i 0 ≡ get_or ms i 0 = get_or-set_other ms k i z 0 other in
          rw there (stays b v (z ∷ members v) (get_or ms i 0) well (λ y j. inr j) (met i (simp length-set at lt)))
    ]

pub met_kept : (b : Limits) (v : Val) (ms : List ℕ) (x : ℕ) → IsWellFormed v → HasMembers v ms → HasMembers (cover b (x ∷ members v)) ms
met_kept b v ms x well met i lt = stays b v (x ∷ members v) (get_or ms i 0) well (λ y j. inr j) (met i lt)

pub met_one : (n x : ℕ) → HasMembers (Set (x ∷ [])) (replicate n x)
met_one n x i lt = inl (get_or-replicate n i x 0 (omega (arith, length-replicate n x)))

-- if no bit differs, two words are equal
no_bits : (x y : ℕ) → bit_xor x y ≡ 0 → x ≡ y
no_bits x y e = omega (arith, xor_add_and x y, and_le_l x y, and_le_r x y)

-- one more word of eight that are equal at both places
pub same_next : (ms ws : List ℕ) (k i j missed : ℕ) → (missed ≡ 0 → (n : ℕ) → n < j → get_or ms (k + n) 0 ≡ get_or ws (i + n) 0)
    → bit_or missed (bit_xor (get_or ms (k + j) 0) (get_or ws (i + j) 0)) ≡ 0 → (n : ℕ) → n < j + 1 → get_or ms (k + n) 0 ≡ get_or ws (i + n) 0
same_next ms ws k i j missed before none n lt =
    let low : missed ≡ 0 = omega (arith, le_or_l missed (bit_xor (get_or ms (k + j) 0) (get_or ws (i + j) 0))) in
    let same : get_or ms (k + j) 0 ≡ get_or ws (i + j) 0 =
    no_bits (get_or ms (k + j) 0) (get_or ws (i + j) 0) (omega (arith, le_or_r missed (bit_xor (get_or ms (k + j) 0) (get_or ws (i + j) 0)))) in
    elim (cases_lt n j) [
      | inl l ↦ before low n l
      | inr g ↦ let e : j ≡ n = omega arith in subst (λ (m : ℕ). get_or ms (k + m) 0 ≡ get_or ws (i + m) 0) e same
    ]

-- words that equal some that were added lately are among these
same_within : (ms ws : List ℕ) (k i n : ℕ) → k + n ≤ length ms → ((m : ℕ) → m < n → get_or ms (k + m) 0 ≡ get_or ws (i + m) 0) → AreAmong (take n (drop i ws)) ms
same_within ms ws k i n fits same z a =
    let p = among_place (take n (drop i ws)) z a in
    let lt : p.0 < n = omega (arith, p.1, length-take n (drop i ws)) in
    let at : get_or (take n (drop i ws)) p.0 0 ≡ get_or ws (i + p.0) 0 = get_or-take n (drop i ws) p.0 0 lt ∙ get_or-drop i ws p.0 0 in
    subst (λ (y : ℕ). Among y ms) (same p.0 lt ∙ sym at ∙ p.2) (among_get ms (k + p.0) (omega arith))

-- some of the words after some of them
pub words_next : (b : Limits) (v out : Val) (words : List ℕ) (i j n : ℕ) → IsWellFormed v → j ≡ i + n → out ≡ cover b (members v ++ take i words)
    → cover b (members out ++ take n (drop i words)) ≡ cover b (members v ++ take j words)
words_next b v out words i j n well e same =
    ap (λ (o : Val). cover b (members o ++ take n (drop i words))) same
    ∙ cover-part b (members v ++ take i words) (take n (drop i words)) (omega (arith, length-append (members v) (take i words), some_members v well))
    ∙ ap (cover b) (append_assoc (members v) (take i words) (take n (drop i words)) ∙ ap (λ (l : List ℕ). members v ++ l) (sym (take-add i n words) ∙ ap (λ (k : ℕ). take k words) (sym e)))

pub met_all : (b : Limits) (v : Val) (ms ws : List ℕ) → IsInLattice b v → HasMembers v ms → AreAmong ws ms → v ≡ cover b (members v ++ ws)
met_all b v ms ws value met within =
    sym value.own
    ∙ cover-same b (members v) (members v ++ ws)
    (λ z j. append_left z (members v) ws j)
    (λ z j. elim (among_append z (members v) ws j) [
      | inl k ↦ k
      | inr k ↦
          let p = among_place ms z (within z k) in
          among_member v z (has_step v value.well) (subst (λ (y : ℕ). IsMember y v) p.2 (met p.0 p.1))
    ])

-- eight words that were met together add nothing
pub met_eight : (b : Limits) (v out : Val) (ms ws : List ℕ) (k i : ℕ) → IsWellFormed v → IsInLattice b out → HasMembers out ms → k + 8 ≤ length ms
    → ((n : ℕ) → n < 8 → get_or ms (k + n) 0 ≡ get_or ws (i + n) 0) → out ≡ cover b (members v ++ take i ws) → out ≡ cover b (members v ++ take (i + 8) ws)
met_eight b v out ms ws k i well value met fits same e =
    met_all b out ms (take 8 (drop i ws)) value met (same_within ms ws k i 8 fits same) ∙ words_next b v out ws i (i + 8) 8 well refl e

-- the results of many words with many
pairs-push : (op : Op) (x : ℕ) (xs ys : List ℕ) → results_of_pairs op (xs ++ x ∷ []) ys ≡ results_of_pairs op xs ys ++ map (alu_of op x) ys
unfolding results_of_pairs
pairs-push op x [] ys = append-nil (map (alu_of op x) ys)
pairs-push op x (w ∷ xs) ys = ap (λ (l : List ℕ). map (alu_of op w) ys ++ l) (pairs-push op x xs ys) ∙ sym (append_assoc (map (alu_of op w) ys) (results_of_pairs op xs ys) (map (alu_of op x) ys))

pub pairs_more : (b : Limits) (out : Val) (op : Op) (first i : ℕ) (xs ys : List ℕ) → i < length xs → out ≡ cover b (first ∷ results_of_pairs op (take i xs) ys)
    → cover b (members out ++ map (alu_of op (get_or xs i 0)) ys) ≡ cover b (first ∷ results_of_pairs op (take (i + 1) xs) ys)
pairs_more b out op first i xs ys h e =
    ap (λ (o : Val). cover b (members o ++ map (alu_of op (get_or xs i 0)) ys)) e
    ∙ cover-part b (first ∷ results_of_pairs op (take i xs) ys) (map (alu_of op (get_or xs i 0)) ys) (omega arith)
    ∙ ap (λ (l : List ℕ). cover b (first ∷ l)) (sym (pairs-push op (get_or xs i 0) (take i xs) ys) ∙ ap (λ (l : List ℕ). results_of_pairs op l ys) (sym (take_more xs i 0 h)))

pairs-append : (op : Op) (xs zs ys : List ℕ) → results_of_pairs op (xs ++ zs) ys ≡ results_of_pairs op xs ys ++ results_of_pairs op zs ys
unfolding results_of_pairs
pairs-append op [] zs ys = refl
pairs-append op (x ∷ xs) zs ys =
    ap (λ (l : List ℕ). map (alu_of op x) ys ++ l) (pairs-append op xs zs ys) ∙ sym (append_assoc (map (alu_of op x) ys) (results_of_pairs op xs ys) (results_of_pairs op zs ys))

pub pairs_rest : (b : Limits) (out : Val) (op : Op) (first i : ℕ) (xs ys : List ℕ) → out ≡ cover b (first ∷ results_of_pairs op (take i xs) ys)
    → cover b (members out ++ results_of_pairs op (take (length xs - i) (drop i xs)) ys) ≡ cover b (first ∷ results_of_pairs op xs ys)
pairs_rest b out op first i xs ys e =
    ap (λ (l : List ℕ). cover b (members out ++ results_of_pairs op l ys)) (take_all (length xs - i) (drop i xs) (omega (arith, length-drop i xs)))
    ∙ ap (λ (o : Val). cover b (members o ++ results_of_pairs op (drop i xs) ys)) e
    ∙ cover-part b (first ∷ results_of_pairs op (take i xs) ys) (results_of_pairs op (drop i xs) ys) (omega arith)
    ∙ ap (λ (l : List ℕ). cover b (first ∷ l)) (sym (pairs-append op (take i xs) (drop i xs) ys) ∙ ap (λ (l : List ℕ). results_of_pairs op l ys) (take-append-drop i xs))

-- the extent of a value and of results
pub extent_no_pairs : {lo hi s : ℕ} (zs : List ℕ) (op : Op) (ys : List ℕ) → IsExtent zs lo hi s → IsExtent (zs ++ results_of_pairs op [] ys) lo hi s
unfolding results_of_pairs
extent_no_pairs zs op ys e = rw (append-nil zs) e

pub extent_pairs : {lo hi s : ℕ} (zs : List ℕ) (op : Op) (i : ℕ) (xs ys : List ℕ) → i < length xs
    → IsExtent ((zs ++ results_of_pairs op (take i xs) ys) ++ map (alu_of op (get_or xs i 0)) ys) lo hi s → IsExtent (zs ++ results_of_pairs op (take (i + 1) xs) ys) lo hi s
extent_pairs {lo} {hi} {s} zs op i xs ys h e =
    subst (λ (l : List ℕ). IsExtent l lo hi s)
    (append_assoc zs (results_of_pairs op (take i xs) ys) (map (alu_of op (get_or xs i 0)) ys)
    ∙ ap (λ (l : List ℕ). zs ++ l) (sym (pairs-push op (get_or xs i 0) (take i xs) ys) ∙ ap (λ (l : List ℕ). results_of_pairs op l ys) (sym (take_more xs i 0 h))))
    e

pub pairs_first : (b : Limits) (op : Op) (xs ys : List ℕ) → 1 ≤ length xs → 1 ≤ length ys
    → cover b (alu_of op (get_or xs 0 0) (get_or ys 0 0) ∷ results_of_pairs op xs ys) ≡ cover b (results_of_pairs op xs ys)
pairs_first b op xs ys some_x some_y =
    cover-same b (alu_of op (get_or xs 0 0) (get_or ys 0 0) ∷ results_of_pairs op xs ys) (results_of_pairs op xs ys)
    (λ z i. elim i [
      | inl e ↦ subst (λ (n : ℕ). Among n (results_of_pairs op xs ys)) (sym e) (pairs_have op (get_or xs 0 0) (get_or ys 0 0) xs ys (among_get xs 0 some_x) (among_get ys 0 some_y))
      | inr j ↦ j
    ])
    (λ z i. inr i)

-- the value of a word and a word is the word that they give
pub pair_one : (b : Limits) (op : Op) (xs ys : List ℕ) → AreLimits b → length xs ≡ 1 → length ys ≡ 1 → alu_of op (get_or xs 0 0) (get_or ys 0 0) < 2 ^ 32
    → Set (alu_of op (get_or xs 0 0) (get_or ys 0 0) ∷ []) ≡ cover b (results_of_pairs op xs ys)
unfolding results_of_pairs
pair_one b op [] ys limits left right small = absurd (omega (arith, left))
pair_one b op (x ∷ xs) [] limits left right small = absurd (omega (arith, right))
pair_one b op (x ∷ []) (y ∷ []) limits left right small = cover-one b (alu_of op x y) limits small
pair_one b op (x ∷ []) (y ∷ z ∷ ys) limits left right small = absurd (omega (arith, right))
pair_one b op (x ∷ w ∷ xs) (y ∷ ys) limits left right small = absurd (omega (arith, left))

pub words_result : (b : Limits) (op : Op) (x y : ℕ) → AreLimits b → alu_of op x y < 2 ^ 32 → Set (alu_of op x y ∷ []) ≡ operation_value b op (Set (x ∷ [])) (Set (y ∷ []))
unfolding possible_results results_of_pairs
words_result b op x y limits small = cover-one b (alu_of op x y) limits small

pub pairs-none : (op : Op) (x : ℕ) (ys : List ℕ) → x ∷ [] ≡ x ∷ results_of_pairs op [] ys
unfolding results_of_pairs
pairs-none op x ys = refl

pub shift_fits : (a b n : ℕ) → a ≤ b → b * 2 ^ n % 2 ^ 64 < 2 ^ 32 → b * 2 ^ n < 2 ^ 64 → a * 2 ^ n % 2 ^ 64 < 2 ^ 32
shift_fits a b n le small fits = let m : a * 2 ^ n ≤ b * 2 ^ n = mul-le-mul_right (2 ^ n) le in omega arith

pub shift_whole : (b n : ℕ) → b < 2 ^ 32 → n < 32 → b * 2 ^ n < 2 ^ 64
shift_whole b n h k = omega (arith, shl_below b 32 n h, pow_mono {i = 32 + n} {j = 64} (omega arith))
