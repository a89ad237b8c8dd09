-- Operations on values.
-- If both operands are Sets, the value covers all results. Otherwise it covers the set that the row
-- of the operation gives, by the bounds and the steps of its operands.
use Rattle.std.specs.Prelude.{ℕ, Bool, true, false, ◌<◌, List, ◌∷◌, ◌++◌, map, length, slice_index, []}
use Rattle.tc_isa.specs.declared.shapes.Op.{Op}
use Rattle.tc_isa.specs.declared.shapes.Op.TheVariants.{Second, Add, Sub, And, Nand, Or, Nor, Xor, Xnor, Andn, Orn, Eq, Ne, Lt, LtU, Ge, GeU, Sh, Sha}
use Rattle.tc_isa.specs.Arithmetic.{alu_of}
use Rattle.value_domain.specs.declared.values.Val.{Val}
use Rattle.value_domain.specs.declared.values.Val.TheVariants.{Set, Span}
use Rattle.value_domain.specs.Limits.{Limits}
use Rattle.value_domain.specs.Values.{IsMember, cover, members}
use Rattle.vd_transfer.specs.Intervals.{extent_of_value, interval_words, result_interval}

-- the operation is a comparison, whose only results are 1 and 0
unfoldable pub is_comparison : Op → Bool
is_comparison Second = false
is_comparison Add = false
is_comparison Sub = false
is_comparison And = false
is_comparison Nand = false
is_comparison Or = false
is_comparison Nor = false
is_comparison Xor = false
is_comparison Xnor = false
is_comparison Andn = false
is_comparison Orn = false
is_comparison Eq = true
is_comparison Ne = true
is_comparison Lt = true
is_comparison LtU = true
is_comparison Ge = true
is_comparison GeU = true
is_comparison Sh = false
is_comparison Sha = false

-- the words that cover the results of an operation on a Span: 0 and 1 for a comparison (true), else
-- an interval by the extents
abbrev pub comparison_or_interval_words : Bool → Op → Val → Val → List ℕ
comparison_or_interval_words true op v w = 0 ∷ 1 ∷ []
comparison_or_interval_words false op v w = interval_words (result_interval op (extent_of_value v) (extent_of_value w) w)

-- the words that cover the results of an operation on a Span, by the extents of both operands
unfoldable pub results_by_extents : Op → Val → Val → List ℕ
results_by_extents Second v w = members w
results_by_extents op v w = comparison_or_interval_words (is_comparison op) op v w

-- the results of an operation on all pairs of words of two lists
unfoldable pub results_of_pairs : Op → List ℕ → List ℕ → List ℕ
results_of_pairs op [] ys = []
results_of_pairs op (x ∷ xs) ys = map (alu_of op x) ys ++ results_of_pairs op xs ys

-- words that include all results of an operation on members: the results of all pairs for two Sets,
-- else what the extents give
unfoldable pub possible_results : Op → Val → Val → List ℕ
possible_results op (Set xs) (Set ys) = results_of_pairs op xs ys
possible_results op (Set xs) (Span lo last s) = results_by_extents op (Set xs) (Span lo last s)
possible_results op (Span lo last s) w = results_by_extents op (Span lo last s) w

-- the abstract value of an operation: the cover of its possible results
abbrev pub operation_value : Limits → Op → Val → Val → Val
operation_value b op v w = cover b (possible_results op v w)

-- each word of the list, such as a table of recent results, is a member of the value
abbrev pub HasMembers : Val → List ℕ → Type 0
HasMembers v ms = (k : ℕ) → k < length ms → IsMember (slice_index ms k) v
