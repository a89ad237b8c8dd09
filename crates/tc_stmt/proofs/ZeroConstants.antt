-- The constant of a row is 0 if a symbol is to fill it.
use Rattle.std.proofs.Common.{◌≡◌, ◌+◌, ◌*◌, ◌/◌, ◌%◌, ◌^◌, ◌&&◌, ◌||◌, ◌==◌, ℕ, Bool, true, false, cond, List, [], ◌∷◌, Option, Some, None, refl, sym, subst, ◌∙◌}
use Rattle.std.specs.Prelude.{slice_get, nat_le, not, codes, option_and_then}
use Rattle.std.specs.List.{list_all}
use Rattle.std.specs.Str.{bytes_eq}
use Rattle.std.proofs.lemmas.Bool.{and_parts}
use Rattle.tc_isa.specs.declared.table.Form.{Form}
use Rattle.tc_isa.specs.Rows.{RowData, table_rows}
use Rattle.tc_isa.specs.Forms.{field_bounds, form_index}
use Rattle.tc_isa.specs.ValidRowFields.{are_registers_allowed}
use Rattle.tc_lex.specs.declared.operand.Shape.{Shape}
use Rattle.tc_lex.specs.declared.operand.Shape.TheVariants as shape
use Rattle.tc_stmt.specs.declared.want.Field.{Field}
use Rattle.tc_stmt.specs.declared.want.Field.TheVariants.{S2, K}
use Rattle.tc_stmt.specs.declared.want.Want.{Want}
use Rattle.tc_stmt.specs.declared.want.Want.TheVariants.{Reg, A10, Number, Target, Absolute, Memory}
use Rattle.tc_lex.specs.Operands.{ValueData, OperandData}
use Rattle.tc_stmt.specs.Wants.{want_of, wants_of}
use Rattle.tc_stmt.specs.RowFields.{RowFieldsData, zero_fields, with_rule, set_field, with_field_value, field_of}
use Rattle.tc_stmt.specs.Items.{ReferenceData}
use Rattle.tc_stmt.specs.Filling.{fill_named_register, fill_number, with_symbol, half_operand_relocation, fill_constant, fill_memory, fill_target, fill_address, fill_absolute, fill_register, check_a10, fill_plain_operand, fill_operand, fill_operands, note_equal_registers, fields_of_row, is_within_field_bound}
use Rattle.tc_stmt.specs.Names.{rule_broken_by_symbol}
use Rattle.tc_stmt.specs.Displacements.{rule_broken_by_displacement, with_displacement}
use Rattle.tc_stmt.specs.OperandForms.{shape_index, register_number, operand_number_modulo, is_symbol_operand, is_half_operand}
use Rattle.tc_stmt.proofs.Cases.{by_test, one_passes}

-- ---- rows
abbrev is_constant : Field → Bool
is_constant K = true
is_constant _ = false

-- an operand here may set the row's constant or its symbol
abbrev takes : RowData → Want → Bool
takes r (Reg bank field) = is_constant field
takes r A10 = false
takes r (Number signed field) = is_constant field || not (half_operand_relocation r shape.High == 0 && half_operand_relocation r shape.Low == 0)
takes r (Memory plus offset) = offset
takes r _ = true

abbrev none_takes : RowData → List Want → Bool
none_takes r ws = list_all (λ w. not (takes r w)) ws

-- at most one of a row's operands sets the constant or the symbol
abbrev one_takes : RowData → List Want → Bool
one_takes r [] = true
one_takes r (w ∷ ws) = cond (takes r w) (none_takes r ws) (one_takes r ws)

abbrev row_takes : RowData → Bool
row_takes r = one_takes r (wants_of r)

all_take : list_all row_takes table_rows ≡ true
unfolding wants_of want_of form_index half_operand_relocation shape_index
all_take = refl

-- ---- the fields so far
-- neither a constant nor a symbol so far
record IsFree (f : RowFieldsData) : Type 0 where
  none : f.reference ≡ None
  zero : f.fields.k ≡ 0

-- no constant if there is a symbol
pub record IsZero (f : RowFieldsData) : Type 0 where
  pub some : (s : ReferenceData) → f.reference ≡ Some s → f.fields.k ≡ 0

record IsKept (f g : RowFieldsData) : Type 0 where
  reference : g.reference ≡ f.reference
  constant : g.fields.k ≡ f.fields.k

record IfSo (P : RowFieldsData → Type 0) (o : Option RowFieldsData) : Type 0 where
  so : (f : RowFieldsData) → o ≡ Some f → P f

if_some : (P : RowFieldsData → Type 0) (f : RowFieldsData) → P f → IfSo P (Some f)
if_some P f h = record { so = λ g e. let same : f ≡ g = cc in subst P same h }

if_none : (P : RowFieldsData → Type 0) → IfSo P None
if_none P = record { so = λ g e. cc }

then_so : (P Q : RowFieldsData → Type 0) (next : RowFieldsData → Option RowFieldsData) (o : Option RowFieldsData) → IfSo P o → ((f : RowFieldsData) → P f → IfSo Q (next f)) → IfSo Q (option_and_then next o)
then_so P Q next None h more = if_none Q
then_so P Q next (Some f) h more = more f (h.so f refl)

free_kept : (f g : RowFieldsData) → IsFree f → IsKept f g → IsFree g
free_kept f g h k = record { none = k.reference ∙ h.none; zero = k.constant ∙ h.zero }

zero_kept : (f g : RowFieldsData) → IsZero f → IsKept f g → IsZero g
zero_kept f g h k = record { some = λ s e. k.constant ∙ h.some s (sym k.reference ∙ e) }

zero_free : (f : RowFieldsData) → IsFree f → IsZero f
zero_free f h = record { some = λ s e. h.zero }

zero_none : (f : RowFieldsData) → f.reference ≡ None → IsZero f
zero_none f h = record { some = λ s e. cc }

-- ---- operands that set neither constant nor symbol
kept_same : (f : RowFieldsData) → IsKept f f
kept_same f = record { reference = refl; constant = refl }

kept_broken : (n : ℕ) (f : RowFieldsData) → IsKept f (with_rule n f)
kept_broken n f = record { reference = refl; constant = refl }

kept_put : (field : Field) (v : ℕ) (f : RowFieldsData) → is_constant field ≡ false → IsKept f (with_field_value field v f)
unfolding set_field
kept_put K v f h = cc
kept_put _ v f h = record { reference = refl; constant = refl }

kept_register : (bank : Bool) (field : Field) (name : List ℕ) (f : RowFieldsData) → is_constant field ≡ false → IsKept f (fill_named_register bank field name f)
unfolding fill_named_register
kept_register bank field name f h = by_test (IsKept f) (register_number name / 16 == cond bank 1 0) _ _ (λ e. kept_put field (register_number name % 16) f h) (λ e. kept_broken 4 f)

kept_number : (form : Form) (signed : Bool) (field : Field) (minus : Bool) (size : ℕ) (f : RowFieldsData) → is_constant field ≡ false → IsKept f (fill_number form signed field minus size f)
unfolding fill_number
kept_number form signed field minus size f h = by_test (IsKept f) (is_within_field_bound signed (field_of field (field_bounds form)) minus size) _ _ (λ e. kept_put field (operand_number_modulo (field_of field (field_bounds form)) minus size) f h) (λ e. kept_broken 5 f)

no_half : (r : RowData) (s : Shape) → (half_operand_relocation r shape.High == 0 && half_operand_relocation r shape.Low == 0) ≡ true → is_half_operand (shape_index s) ≡ true → half_operand_relocation r s == 0 ≡ true
unfolding shape_index
no_half r shape.Absent h half = cc
no_half r shape.Number h half = cc
no_half r shape.Word h half = cc
no_half r shape.Sum h half = cc
no_half r shape.High h half = (and_parts (half_operand_relocation r shape.High == 0) (half_operand_relocation r shape.Low == 0) h).0
no_half r shape.Low h half = (and_parts (half_operand_relocation r shape.High == 0) (half_operand_relocation r shape.Low == 0) h).1
no_half r shape.Bad h half = cc
no_half r shape.Huge h half = cc

neither : (a b : Bool) → (a || not b) ≡ false → (a ≡ false) × (b ≡ true)
neither true b e = cc
neither false true e = (refl, refl)
neither false false e = cc

kept_value : (r : RowData) (signed : Bool) (field : Field) (v : ValueData) (f : RowFieldsData) → takes r (Number signed field) ≡ false → IfSo (IsKept f) (fill_constant r signed field v f)
unfolding fill_constant
kept_value r signed field v f h =
    let p = neither (is_constant field) (half_operand_relocation r shape.High == 0 && half_operand_relocation r shape.Low == 0) h in
    by_test (IfSo (IsKept f)) (shape_index v.shape == 1) _ _ (λ e. if_some (IsKept f) _ (kept_number r.form signed field v.minus v.size f p.0))
    (λ e. by_test (IfSo (IsKept f)) (shape_index v.shape == 7) _ _ (λ e. if_some (IsKept f) _ (kept_broken 5 f))
    (λ e. by_test (IfSo (IsKept f)) (is_symbol_operand (shape_index v.shape)) _ _ (λ e. if_some (IsKept f) _ (kept_broken _ f))
    (λ e. by_test (IfSo (IsKept f)) (is_half_operand (shape_index v.shape)) _ _
    (λ half. by_test (IfSo (IsKept f)) (half_operand_relocation r v.shape == 0) _ _ (λ e. if_some (IsKept f) _ (kept_broken _ f))
    (λ some. absurd (both (half_operand_relocation r v.shape == 0) (no_half r v.shape p.1 half) some)))
    (λ e. if_none (IsKept f)))))
  where
    both : (b : Bool) → b ≡ true → b ≡ false → ⊥
    both b e g = cc

kept_memory : (r : RowData) (plus offset : Bool) (o : OperandData) (f : RowFieldsData) → offset ≡ false → IfSo (IsKept f) (fill_memory r plus offset o f)
unfolding fill_memory
kept_memory r plus true o f h = cc
kept_memory r plus false o f h =
    by_test (IfSo (IsKept f)) _ _ _
    (λ e. by_test (IfSo (IsKept f)) (shape_index o.value.shape == 0) _ _ (λ e. if_some (IsKept f) _ (kept_register true S2 o.base f refl)) (λ e. if_none (IsKept f)))
    (λ e. if_none (IsKept f))

kept_fill : (r : RowData) (w : Want) (o : OperandData) (f : RowFieldsData) → takes r w ≡ false → IfSo (IsKept f) (fill_operand r w o f)
unfolding fill_operand fill_plain_operand fill_register check_a10
kept_fill r (Reg bank field) o f h =
    by_test (IfSo (IsKept f)) o.is_memory _ _ (λ e. if_none (IsKept f))
    (λ e. by_test (IfSo (IsKept f)) (shape_index o.value.shape == 2) _ _ (λ e. if_some (IsKept f) _ (kept_register bank field o.value.name f h)) (λ e. if_none (IsKept f)))
kept_fill r A10 o f h =
    by_test (IfSo (IsKept f)) o.is_memory _ _ (λ e. if_none (IsKept f))
    (λ e. by_test (IfSo (IsKept f)) (shape_index o.value.shape == 2) _ _ (λ e. by_test (IfSo (IsKept f)) _ _ _ (λ e. if_some (IsKept f) _ (kept_same f)) (λ e. if_some (IsKept f) _ (kept_broken 4 f))) (λ e. if_none (IsKept f)))
kept_fill r (Number signed field) o f h = by_test (IfSo (IsKept f)) o.is_memory _ _ (λ e. if_none (IsKept f)) (λ e. kept_value r signed field o.value f h)
kept_fill r (Memory plus offset) o f h = kept_memory r plus offset o f h
kept_fill r _ o f h = cc

-- ---- operands that set the constant or the symbol
none_put : (field : Field) (v : ℕ) (f : RowFieldsData) → IsFree f → IsZero (with_field_value field v f)
none_put field v f h = zero_none (with_field_value field v f) h.none

none_broken : (n : ℕ) (f : RowFieldsData) → IsFree f → IsZero (with_rule n f)
none_broken n f h = zero_none (with_rule n f) h.none

zero_symbol : (kind : ℕ) (v : ValueData) (f : RowFieldsData) → IsFree f → IsZero (with_symbol kind v f)
unfolding with_symbol
zero_symbol kind v f h = by_test IsZero (rule_broken_by_symbol v == 15) _ _ (λ e. record { some = λ s g. h.zero }) (λ e. none_broken (rule_broken_by_symbol v) f h)

zero_register : (bank : Bool) (field : Field) (name : List ℕ) (f : RowFieldsData) → IsFree f → IsZero (fill_named_register bank field name f)
unfolding fill_named_register
zero_register bank field name f h = by_test IsZero (register_number name / 16 == cond bank 1 0) _ _ (λ e. none_put field (register_number name % 16) f h) (λ e. none_broken 4 f h)

zero_number : (form : Form) (signed : Bool) (field : Field) (minus : Bool) (size : ℕ) (f : RowFieldsData) → IsFree f → IsZero (fill_number form signed field minus size f)
unfolding fill_number
zero_number form signed field minus size f h = by_test IsZero (is_within_field_bound signed (field_of field (field_bounds form)) minus size) _ _ (λ e. none_put field (operand_number_modulo (field_of field (field_bounds form)) minus size) f h) (λ e. none_broken 5 f h)

zero_value : (r : RowData) (signed : Bool) (field : Field) (v : ValueData) (f : RowFieldsData) → IsFree f → IfSo IsZero (fill_constant r signed field v f)
unfolding fill_constant
zero_value r signed field v f h =
    by_test (IfSo IsZero) (shape_index v.shape == 1) _ _ (λ e. if_some IsZero _ (zero_number r.form signed field v.minus v.size f h))
    (λ e. by_test (IfSo IsZero) (shape_index v.shape == 7) _ _ (λ e. if_some IsZero _ (none_broken 5 f h))
    (λ e. by_test (IfSo IsZero) (is_symbol_operand (shape_index v.shape)) _ _ (λ e. if_some IsZero _ (none_broken _ f h))
    (λ e. by_test (IfSo IsZero) (is_half_operand (shape_index v.shape)) _ _
    (λ e. by_test (IfSo IsZero) (half_operand_relocation r v.shape == 0) _ _ (λ e. if_some IsZero _ (none_broken _ f h)) (λ e. if_some IsZero _ (zero_symbol (half_operand_relocation r v.shape) v f h)))
    (λ e. if_none IsZero))))

zero_memory : (r : RowData) (plus offset : Bool) (o : OperandData) (f : RowFieldsData) → IsFree f → IfSo IsZero (fill_memory r plus offset o f)
unfolding fill_memory
zero_memory r plus offset o f h =
    by_test (IfSo IsZero) _ _ _
    (λ e. by_test (IfSo IsZero) (shape_index o.value.shape == 0) _ _ (λ e. if_some IsZero _ (zero_register true S2 o.base f h))
    (λ e. by_test (IfSo IsZero) offset _ _ (λ e. zero_value r true K o.value (fill_named_register true S2 o.base f) (free_kept f _ h (kept_register true S2 o.base f refl))) (λ e. if_none IsZero)))
    (λ e. if_none IsZero)

zero_displaced : (r : RowData) (minus : Bool) (size : ℕ) (f : RowFieldsData) → IsFree f → IsZero (with_displacement r minus size f)
unfolding with_displacement
zero_displaced r minus size f h = by_test IsZero (rule_broken_by_displacement r minus size == 15) _ _ (λ e. none_put K (operand_number_modulo (field_bounds r.form).k minus (size / 2)) f h) (λ e. none_broken (rule_broken_by_displacement r minus size) f h)

zero_target : (r : RowData) (v : ValueData) (f : RowFieldsData) → IsFree f → IfSo IsZero (fill_target r v f)
unfolding fill_target
zero_target r v f h =
    by_test (IfSo IsZero) (shape_index v.shape == 3 && bytes_eq v.name (codes ".")) _ _ (λ e. if_some IsZero _ (by_test IsZero v.wide _ _ (λ e. none_broken 5 f h) (λ e. zero_displaced r v.minus v.size f h)))
    (λ e. by_test (IfSo IsZero) (is_symbol_operand (shape_index v.shape)) _ _ (λ e. if_some IsZero _ (zero_symbol _ v f h))
    (λ e. by_test (IfSo IsZero) (is_half_operand (shape_index v.shape)) _ _ (λ e. if_some IsZero _ (none_broken _ f h)) (λ e. if_none IsZero)))

zero_address : (form : Form) (minus : Bool) (size : ℕ) (f : RowFieldsData) → IsFree f → IsZero (fill_address form minus size f)
unfolding fill_address
zero_address form minus size f h =
    by_test IsZero ((minus && not (size == 0)) || nat_le (2 ^ 32) size) _ _ (λ e. none_broken 5 f h)
    (λ e. by_test IsZero (form_index form == 8) _ _
    (λ e. by_test IsZero (size / 2 ^ 14 % 2 ^ 14 == 0) _ _ (λ e. none_put K (size / 2 ^ 28 * 2 ^ 14 + size % 2 ^ 14) f h) (λ e. none_broken 5 f h))
    (λ e. by_test IsZero (size / 2 ^ 21 % 2 ^ 7 == 0 && size % 2 == 0) _ _ (λ e. none_put K (size / 2 ^ 28 * 2 ^ 20 + size % 2 ^ 21 / 2) f h) (λ e. none_broken 5 f h)))

zero_absolute : (r : RowData) (v : ValueData) (f : RowFieldsData) → IsFree f → IfSo IsZero (fill_absolute r v f)
unfolding fill_absolute
zero_absolute r v f h =
    by_test (IfSo IsZero) (shape_index v.shape == 1) _ _ (λ e. if_some IsZero _ (zero_address r.form v.minus v.size f h))
    (λ e. by_test (IfSo IsZero) (shape_index v.shape == 7) _ _ (λ e. if_some IsZero _ (none_broken 5 f h))
    (λ e. by_test (IfSo IsZero) (is_symbol_operand (shape_index v.shape)) _ _
    (λ e. by_test (IfSo IsZero) (form_index r.form == 8) _ _ (λ e. if_some IsZero _ (none_broken _ f h)) (λ e. if_some IsZero _ (zero_symbol 2 v f h)))
    (λ e. by_test (IfSo IsZero) (is_half_operand (shape_index v.shape)) _ _ (λ e. if_some IsZero _ (none_broken _ f h)) (λ e. if_none IsZero))))

zero_fill : (r : RowData) (w : Want) (o : OperandData) (f : RowFieldsData) → IsFree f → IfSo IsZero (fill_operand r w o f)
unfolding fill_operand fill_plain_operand fill_register check_a10
zero_fill r (Reg bank field) o f h =
    by_test (IfSo IsZero) o.is_memory _ _ (λ e. if_none IsZero)
    (λ e. by_test (IfSo IsZero) (shape_index o.value.shape == 2) _ _ (λ e. if_some IsZero _ (zero_register bank field o.value.name f h)) (λ e. if_none IsZero))
zero_fill r A10 o f h =
    by_test (IfSo IsZero) o.is_memory _ _ (λ e. if_none IsZero)
    (λ e. by_test (IfSo IsZero) (shape_index o.value.shape == 2) _ _ (λ e. by_test (IfSo IsZero) _ _ _ (λ e. if_some IsZero _ (zero_free f h)) (λ e. if_some IsZero _ (none_broken 4 f h))) (λ e. if_none IsZero))
zero_fill r (Number signed field) o f h = by_test (IfSo IsZero) o.is_memory _ _ (λ e. if_none IsZero) (λ e. zero_value r signed field o.value f h)
zero_fill r Target o f h = by_test (IfSo IsZero) o.is_memory _ _ (λ e. if_none IsZero) (λ e. zero_target r o.value f h)
zero_fill r Absolute o f h = by_test (IfSo IsZero) o.is_memory _ _ (λ e. if_none IsZero) (λ e. zero_absolute r o.value f h)
zero_fill r (Memory plus offset) o f h = zero_memory r plus offset o f h

-- ---- all operands
not_true : (b : Bool) → not b ≡ true → b ≡ false
not_true true e = cc
not_true false e = refl

none_all : (r : RowData) (ws : List Want) (os : List OperandData) (f : RowFieldsData) → none_takes r ws ≡ true → IsZero f → IfSo IsZero (fill_operands r ws os f)
unfolding fill_operands
none_all r [] [] f h z = if_some IsZero f z
none_all r [] (o ∷ os) f h z = if_none IsZero
none_all r (w ∷ ws) [] f h z = if_none IsZero
none_all r (w ∷ ws) (o ∷ os) f h z =
    let p = and_parts (not (takes r w)) (none_takes r ws) h in
    then_so (IsKept f) IsZero (fill_operands r ws os) (fill_operand r w o f) (kept_fill r w o f (not_true (takes r w) p.0)) (λ g k. none_all r ws os g p.1 (zero_kept f g z k))

one_all : (r : RowData) (ws : List Want) (os : List OperandData) (f : RowFieldsData) → one_takes r ws ≡ true → IsFree f → IfSo IsZero (fill_operands r ws os f)
unfolding fill_operands
one_all r [] [] f h z = if_some IsZero f (zero_free f z)
one_all r [] (o ∷ os) f h z = if_none IsZero
one_all r (w ∷ ws) [] f h z = if_none IsZero
one_all r (w ∷ ws) (o ∷ os) f h z = by (takes r w) refl h (λ g k. one_all r ws os g k)
  where
    by : (b : Bool) → takes r w ≡ b → cond b (none_takes r ws) (one_takes r ws) ≡ true → ((g : RowFieldsData) → one_takes r ws ≡ true → IsFree g → IfSo IsZero (fill_operands r ws os g)) → IfSo IsZero (option_and_then (fill_operands r ws os) (fill_operand r w o f))
    by true e none rec = then_so IsZero IsZero (fill_operands r ws os) (fill_operand r w o f) (zero_fill r w o f z) (λ g k. none_all r ws os g none k)
    by false e one rec = then_so (IsKept f) IsZero (fill_operands r ws os) (fill_operand r w o f) (kept_fill r w o f e) (λ g k. rec g one (free_kept f g z k))

zero_apart : (r : RowData) (f : RowFieldsData) → IsZero f → IsZero (note_equal_registers r f)
zero_apart r f h = by_test IsZero (are_registers_allowed r f.fields) f (with_rule 12 f) (λ e. h) (λ e. zero_kept f (with_rule 12 f) h (kept_broken 12 f))

-- a listed row's fields have no constant if they have a symbol
pub zero_judged : (k : ℕ) (r : RowData) (os : List OperandData) (f : RowFieldsData) → slice_get table_rows k ≡ Some r → fields_of_row r (wants_of r) os ≡ Some f → IsZero f
unfolding fields_of_row
zero_judged k r os f at e =
    (then_so IsZero IsZero (λ g. Some (note_equal_registers r g)) (fill_operands r (wants_of r) os zero_fields)
    (one_all r (wants_of r) os zero_fields (one_passes row_takes table_rows k r all_take at) (record { none = refl; zero = refl })) (λ g z. if_some IsZero (note_equal_registers r g) (zero_apart r g z))).so f e
