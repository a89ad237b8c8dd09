-- The fields that a row names come back, and the others stay.
use Rattle.std.proofs.Common.{◌≡◌, ◌<◌, ◌%◌, ◌||◌, ℕ, Bool, true, false, cond, List, [], ◌∷◌, refl, ap, ◌∙◌, arith}
use Rattle.std.specs.Prelude.{fold}
use Rattle.std.specs.List.{list_any}
use Rattle.tc_isa.specs.declared.fields.Fields.{Fields}
use Rattle.tc_isa.specs.InBounds.{FieldsFitTheirBits}
use Rattle.tc_stmt.specs.declared.want.Field.{Field}
use Rattle.tc_stmt.specs.declared.want.Field.TheVariants.{C, S1, S2, N, K}
use Rattle.tc_stmt.specs.declared.want.Want.{Want}
use Rattle.tc_stmt.specs.declared.want.Want.TheVariants.{Reg, A10, Number, Target, Absolute, Memory}
use Rattle.tc_stmt.specs.RowFields.{set_field, field_of}
use Rattle.tc_disasm.specs.GivenFields.{is_field_set_by_want, with_fields_set_by_want}

byte : (n : ℕ) → n < 16 → n % 256 ≡ n
byte n h = omega arith

two_bits : (n : ℕ) → n < 4 → n % 256 ≡ n
two_bits n h = omega arith

field_of-given : (x : Field) (f g : Fields) (w : Want) → FieldsFitTheirBits f → field_of x (with_fields_set_by_want f g w) ≡ cond (is_field_set_by_want x w) (field_of x f) (field_of x g)
unfolding with_fields_set_by_want is_field_set_by_want set_field field_of
field_of-given C f g (Reg p C) h = byte f.c h.c
field_of-given C f g (Reg p S1) h = refl
field_of-given C f g (Reg p S2) h = refl
field_of-given C f g (Reg p N) h = refl
field_of-given C f g (Reg p K) h = refl
field_of-given C f g A10 h = refl
field_of-given C f g (Number s C) h = byte f.c h.c
field_of-given C f g (Number s S1) h = refl
field_of-given C f g (Number s S2) h = refl
field_of-given C f g (Number s N) h = refl
field_of-given C f g (Number s K) h = refl
field_of-given C f g Target h = refl
field_of-given C f g Absolute h = refl
field_of-given C f g (Memory p true) h = refl
field_of-given C f g (Memory p false) h = refl
field_of-given S1 f g (Reg p C) h = refl
field_of-given S1 f g (Reg p S1) h = byte f.s1 h.s1
field_of-given S1 f g (Reg p S2) h = refl
field_of-given S1 f g (Reg p N) h = refl
field_of-given S1 f g (Reg p K) h = refl
field_of-given S1 f g A10 h = refl
field_of-given S1 f g (Number s C) h = refl
field_of-given S1 f g (Number s S1) h = byte f.s1 h.s1
field_of-given S1 f g (Number s S2) h = refl
field_of-given S1 f g (Number s N) h = refl
field_of-given S1 f g (Number s K) h = refl
field_of-given S1 f g Target h = refl
field_of-given S1 f g Absolute h = refl
field_of-given S1 f g (Memory p true) h = refl
field_of-given S1 f g (Memory p false) h = refl
field_of-given S2 f g (Reg p C) h = refl
field_of-given S2 f g (Reg p S1) h = refl
field_of-given S2 f g (Reg p S2) h = byte f.s2 h.s2
field_of-given S2 f g (Reg p N) h = refl
field_of-given S2 f g (Reg p K) h = refl
field_of-given S2 f g A10 h = refl
field_of-given S2 f g (Number s C) h = refl
field_of-given S2 f g (Number s S1) h = refl
field_of-given S2 f g (Number s S2) h = byte f.s2 h.s2
field_of-given S2 f g (Number s N) h = refl
field_of-given S2 f g (Number s K) h = refl
field_of-given S2 f g Target h = refl
field_of-given S2 f g Absolute h = refl
field_of-given S2 f g (Memory p true) h = byte f.s2 h.s2
field_of-given S2 f g (Memory p false) h = byte f.s2 h.s2
field_of-given N f g (Reg p C) h = refl
field_of-given N f g (Reg p S1) h = refl
field_of-given N f g (Reg p S2) h = refl
field_of-given N f g (Reg p N) h = two_bits f.n h.n
field_of-given N f g (Reg p K) h = refl
field_of-given N f g A10 h = refl
field_of-given N f g (Number s C) h = refl
field_of-given N f g (Number s S1) h = refl
field_of-given N f g (Number s S2) h = refl
field_of-given N f g (Number s N) h = two_bits f.n h.n
field_of-given N f g (Number s K) h = refl
field_of-given N f g Target h = refl
field_of-given N f g Absolute h = refl
field_of-given N f g (Memory p true) h = refl
field_of-given N f g (Memory p false) h = refl
field_of-given K f g (Reg p C) h = refl
field_of-given K f g (Reg p S1) h = refl
field_of-given K f g (Reg p S2) h = refl
field_of-given K f g (Reg p N) h = refl
field_of-given K f g (Reg p K) h = refl
field_of-given K f g A10 h = refl
field_of-given K f g (Number s C) h = refl
field_of-given K f g (Number s S1) h = refl
field_of-given K f g (Number s S2) h = refl
field_of-given K f g (Number s N) h = refl
field_of-given K f g (Number s K) h = refl
field_of-given K f g Target h = refl
field_of-given K f g Absolute h = refl
field_of-given K f g (Memory p true) h = refl
field_of-given K f g (Memory p false) h = refl

joined : (b c : Bool) (x y : ℕ) → cond c x (cond b x y) ≡ cond (b || c) x y
joined true true x y = refl
joined true false x y = refl
joined false c x y = refl

-- a field that some want names is f's, and any other keeps its value
pub field_of-fold : (x : Field) (f g : Fields) (ws : List Want) → FieldsFitTheirBits f → field_of x (fold (with_fields_set_by_want f) g ws) ≡ cond (list_any (is_field_set_by_want x) ws) (field_of x f) (field_of x g)
field_of-fold x f g [] h = refl
field_of-fold x f g (w ∷ ws) h =
    field_of-fold x f (with_fields_set_by_want f g w) ws h
    ∙ ap (cond (list_any (is_field_set_by_want x) ws) (field_of x f)) (field_of-given x f g w h)
    ∙ joined (is_field_set_by_want x w) (list_any (is_field_set_by_want x) ws) (field_of x f) (field_of x g)
