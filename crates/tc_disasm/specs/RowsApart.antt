-- The rows of one name differ in their operands.
use Rattle.std.specs.Prelude.{ℕ, ◌&&◌, ◌||◌, not, Bool, true, false, List, ◌∷◌, []}
use Rattle.std.specs.List.{list_all}
use Rattle.std.specs.Str.{bytes_eq}
use Rattle.tc_isa.specs.Rows.{RowData}
use Rattle.tc_isa.specs.ValidRowFields.{are_bools_equal}
use Rattle.tc_stmt.specs.declared.want.Want.{Want}
use Rattle.tc_stmt.specs.declared.want.Want.TheVariants.{Reg, A10, Number, Target, Absolute, Memory}
use Rattle.tc_stmt.specs.Wants.{wants_of}

-- the operand printed for the first want breaks a rule of the second, or has another form
unfoldable pub is_want_refused_by : Want → Want → Bool
is_want_refused_by (Reg p f) (Reg q g) = not (are_bools_equal p q)
is_want_refused_by (Reg p f) (Number s g) = true
is_want_refused_by (Reg p f) (Memory q o) = true
is_want_refused_by (Number s f) (Reg q g) = true
is_want_refused_by (Number s f) A10 = true
is_want_refused_by (Number s f) Target = true
is_want_refused_by (Number s f) (Memory q o) = true
is_want_refused_by Absolute (Reg q g) = true
is_want_refused_by Absolute A10 = true
is_want_refused_by Absolute Target = true
is_want_refused_by Absolute (Memory q o) = true
is_want_refused_by Target (Reg q g) = true
is_want_refused_by Target A10 = true
is_want_refused_by Target (Number s g) = true
is_want_refused_by Target (Memory q o) = true
is_want_refused_by (Memory p o) (Memory q u) = not (are_bools_equal p q)
is_want_refused_by (Memory p o) (Reg q g) = true
is_want_refused_by (Memory p o) A10 = true
is_want_refused_by (Memory p o) (Number s g) = true
is_want_refused_by (Memory p o) Target = true
is_want_refused_by (Memory p o) Absolute = true
is_want_refused_by a b = false

-- the operands printed for the first wants are refused by the second: their number differs, or one
-- is refused
unfoldable pub are_wants_refused_by : List Want → List Want → Bool
are_wants_refused_by [] [] = false
are_wants_refused_by [] (v ∷ vs) = true
are_wants_refused_by (w ∷ ws) [] = true
are_wants_refused_by (w ∷ ws) (v ∷ vs) = is_want_refused_by w v || are_wants_refused_by ws vs

-- the name and the wants of a row
pub record RowNameAndWants : Type 0 where
  pub name : List ℕ
  pub wants : List Want

-- the name and the wants of a row
abbrev pub row_name_and_wants : RowData → RowNameAndWants
row_name_and_wants r = record { name = r.name; wants = wants_of r }

-- two rows have different names, or neither takes the printed operands of the other
abbrev pub are_rows_distinguishable : RowNameAndWants → RowNameAndWants → Bool
are_rows_distinguishable a b = not (bytes_eq a.name b.name) || (are_wants_refused_by a.wants b.wants && are_wants_refused_by b.wants a.wants)

-- any two rows of the list can be told apart by names or printed operands
abbrev pub are_all_rows_distinguishable : List RowNameAndWants → Bool
are_all_rows_distinguishable [] = true
are_all_rows_distinguishable (a ∷ es) = list_all (are_rows_distinguishable a) es && are_all_rows_distinguishable es
