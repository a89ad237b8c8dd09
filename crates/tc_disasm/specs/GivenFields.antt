-- The fields that printed operands set, want by want.
use Rattle.std.specs.Prelude.{List, Bool, true, false}
use Rattle.tc_isa.specs.declared.fields.Fields.{Fields}
use Rattle.tc_stmt.specs.declared.want.Want.{Want}
use Rattle.tc_isa.specs.declared.fields.Uses.{Uses}
use Rattle.tc_stmt.specs.declared.want.Field.{Field}
use Rattle.tc_stmt.specs.declared.want.Field.TheVariants.{C, S1, S2, N, K}
use Rattle.tc_stmt.specs.declared.want.Want.TheVariants.{Reg, Number, Target, Absolute, Memory, A10}
use Rattle.std.specs.List.{list_any}
use Rattle.tc_stmt.specs.RowFields.{set_field, field_of}

-- the fields g, but with those of f that a printed operand for this want shows
unfoldable pub with_fields_set_by_want : Fields → Fields → Want → Fields
with_fields_set_by_want f g (Reg p x) = set_field x (field_of x f) g
with_fields_set_by_want f g A10 = g
with_fields_set_by_want f g (Number s x) = set_field x (field_of x f) g
with_fields_set_by_want f g Target = set_field K f.k g
with_fields_set_by_want f g Absolute = set_field K f.k g
with_fields_set_by_want f g (Memory p true) = set_field K f.k (set_field S2 f.s2 g)
with_fields_set_by_want f g (Memory p false) = set_field S2 f.s2 g

-- a printed operand for this want sets the field
unfoldable pub is_field_set_by_want : Field → Want → Bool
is_field_set_by_want C (Reg p C) = true
is_field_set_by_want C (Number s C) = true
is_field_set_by_want S1 (Reg p S1) = true
is_field_set_by_want S1 (Number s S1) = true
is_field_set_by_want S2 (Reg p S2) = true
is_field_set_by_want S2 (Number s S2) = true
is_field_set_by_want S2 (Memory p o) = true
is_field_set_by_want N (Number s N) = true
is_field_set_by_want N (Reg p N) = true
is_field_set_by_want K (Number s K) = true
is_field_set_by_want K (Reg p K) = true
is_field_set_by_want K (Memory p o) = o
is_field_set_by_want K Target = true
is_field_set_by_want K Absolute = true
is_field_set_by_want f w = false

-- the fields that the printed operands of these wants set
unfoldable pub fields_set_by_wants : List Want → Uses
fields_set_by_wants ws = record { c = list_any (is_field_set_by_want C) ws; s1 = list_any (is_field_set_by_want S1) ws; s2 = list_any (is_field_set_by_want S2) ws; n = list_any (is_field_set_by_want N) ws; k = list_any (is_field_set_by_want K) ws }
