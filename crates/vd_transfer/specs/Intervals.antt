-- Strided intervals: the bounds of values, and the words that an operation's interval covers.
use Rattle.std.specs.Prelude.{◌+◌, ◌-◌, ◌*◌, ◌/◌, ◌%◌, ◌^◌, ℕ, ◌||◌, nat_lt, nat_le, if◌then◌else◌, min, max, List, filter, ◌∷◌, ◌≤◌, []}
use Rattle.tc_isa.specs.declared.shapes.Op.{Op}
use Rattle.tc_isa.specs.declared.shapes.Op.TheVariants.{Second, Add, Sub, And, Nand, Or, Nor, Xor, Xnor, Andn, Orn, Eq, Ne, Lt, LtU, Ge, GeU, Sh, Sha}
use Rattle.value_domain.specs.declared.values.Val.{Val}
use Rattle.value_domain.specs.declared.values.Val.TheVariants.{Set, Span}
use Rattle.value_domain.specs.declared.lattice.Extent.{Extent}
use Rattle.value_domain.specs.Sets.{least, greatest}
use Rattle.value_domain.specs.Values.{multiples_in_range, greatest_member, is_in_span, least_member, members, step_of_value}
use Rattle.vd_transfer.specs.declared.strided_interval.StridedInterval.{StridedInterval}
use Rattle.vd_transfer.specs.declared.refinement.Interval.{Interval}

-- the words of a strided interval
abbrev pub interval_words : StridedInterval → List ℕ
interval_words r = multiples_in_range r.first r.last r.step

-- the strided interval of the multiples of 2 ^ step from the first word to the last
abbrev pub interval : ℕ → ℕ → ℕ → StridedInterval
interval first last step = record { first = first; last = last; step = step }

-- the strided interval of all words that are multiples of 2 ^ s
abbrev pub all_multiples : ℕ → StridedInterval
all_multiples s = interval 0 (2 ^ 32 - 1) s

-- all words that are multiples of 2 ^ s
abbrev pub words_of_all_multiples : ℕ → List ℕ
words_of_all_multiples s = interval_words (all_multiples s)

-- the strided interval of the sums of a..=b and c..=d of step m, modulo 2 ^ 32
unfoldable pub sum_interval : ℕ → ℕ → ℕ → ℕ → ℕ → StridedInterval
sum_interval a b c d m =
    if nat_lt (b + d) (2 ^ 32) then interval (a + c) (b + d) m
    else if nat_le (2 ^ 32) (a + c) then interval (a + c - 2 ^ 32) (b + d - 2 ^ 32) m
    else all_multiples m

-- the strided interval of the differences of a..=b and c..=d of step m, modulo 2 ^ 32
unfoldable pub difference_interval : ℕ → ℕ → ℕ → ℕ → ℕ → StridedInterval
difference_interval a b c d m =
    if nat_le d a then interval (a - d) (b - c) m
    else if nat_lt b c then interval (a + 2 ^ 32 - d) (b + 2 ^ 32 - c) m
    else all_multiples m

-- shifts of a..=b of step p by the six bits n: to the left by n if it is below 32, else to the
-- right by 64 - n, filled with zeros
unfoldable pub logical_shift_interval : ℕ → ℕ → ℕ → ℕ → StridedInterval
logical_shift_interval a b p n =
    if nat_lt n 32
    then (if nat_lt (b * 2 ^ n) (2 ^ 32) then interval (a * 2 ^ n) (b * 2 ^ n) (min 2 (p + n)) else all_multiples (min 2 (p + n)))
    else interval (a / 2 ^ (64 - n)) (b / 2 ^ (64 - n)) 0

-- shifts of a..=b of step p by the six bits n: to the left by n if it is below 32, else to the
-- right by 64 - n, filled with the sign bit
unfoldable pub arithmetic_shift_interval : ℕ → ℕ → ℕ → ℕ → StridedInterval
arithmetic_shift_interval a b p n = if nat_lt n 32 || nat_lt b (2 ^ 31) then logical_shift_interval a b p n else all_multiples 0

-- a shift of strided intervals: it gives the interval of the results by the ends and the step of
-- the words and by the six bits of the count
abbrev pub IntervalShift : Type 0
IntervalShift = ℕ → ℕ → ℕ → ℕ → StridedInterval

-- the interval of a..=b of step p, shifted by the count if that is one word; else of all words
abbrev pub shifted_interval : IntervalShift → ℕ → ℕ → ℕ → Val → StridedInterval
shifted_interval shift a b p (Set (y ∷ [])) = shift a b p (y % 64)
shifted_interval shift a b p (Set []) = all_multiples 0
shifted_interval shift a b p (Set (x ∷ y ∷ ys)) = all_multiples 0
shifted_interval shift a b p (Span lo last s) = all_multiples 0

-- the strided interval that covers an operation's results, by the extents e and f of its operands;
-- a shift goes by the count w
unfoldable pub result_interval : Op → Extent → Extent → Val → StridedInterval
result_interval Second e f w = all_multiples 0
result_interval Add e f w = sum_interval e.least e.greatest f.least f.greatest (min e.step f.step)
result_interval Sub e f w = difference_interval e.least e.greatest f.least f.greatest (min e.step f.step)
result_interval And e f w = interval 0 (min e.greatest f.greatest) (max e.step f.step)
result_interval Nand e f w = all_multiples 0
result_interval Or e f w = all_multiples 0
result_interval Nor e f w = all_multiples 0
result_interval Xor e f w = all_multiples 0
result_interval Xnor e f w = all_multiples 0
result_interval Andn e f w = all_multiples 0
result_interval Orn e f w = all_multiples 0
result_interval Eq e f w = all_multiples 0
result_interval Ne e f w = all_multiples 0
result_interval Lt e f w = all_multiples 0
result_interval LtU e f w = all_multiples 0
result_interval Ge e f w = all_multiples 0
result_interval GeU e f w = all_multiples 0
result_interval Sh e f w = shifted_interval logical_shift_interval e.least e.greatest e.step w
result_interval Sha e f w = shifted_interval arithmetic_shift_interval e.least e.greatest e.step w

-- the extent of an abstract value: its least and its greatest member, and its step
abbrev pub extent_of_value : Val → Extent
extent_of_value v = record { least = least_member v; greatest = greatest_member v; step = step_of_value v }

-- the members of a value that are in the interval i, from i.lo up to i.last
abbrev pub members_in_interval : Interval → Val → List ℕ
members_in_interval i v = filter (is_in_span i.lo i.last 0) (members v)

-- the word x is one of the interval i, from i.lo up to i.last
abbrev pub IsInInterval : Interval → ℕ → Type 0
IsInInterval i x = (i.lo ≤ x) × (x ≤ i.last)
