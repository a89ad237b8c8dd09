-- The fields that operands fill fit the row, and so do symbols.
use Rattle.std.proofs.Common.{◌≡◌, ◌<◌, ◌≤◌, ◌+◌, ◌-◌, ◌*◌, ◌/◌, ◌%◌, ◌^◌, ◌&&◌, ◌||◌, ◌==◌, min, ℕ, zero, suc, Bool, true, false, cond, List, [], ◌∷◌, Option, Some, None, Result, Ok, Err, refl, sym, ap, subst, ◌∙◌, arith}
use Rattle.std.specs.Prelude.{slice_get, nat_lt, nat_le, not, codes, option_and_then}
use Rattle.std.specs.List.{list_all}
use Rattle.std.specs.Option.{option_map_or}
use Rattle.std.specs.Str.{bytes_eq}
use Rattle.std.proofs.Math.Dec.{eqb-suc-zero}
use Rattle.std.proofs.lemmas.Bool.{ltb-true, leb-true, ltb-false, leb-false, and_parts}
use Rattle.std.proofs.lemmas.Bool.Decides.{Decides-eqb}
use Rattle.tc_isa.specs.declared.fields.Fields.{Fields}
use Rattle.tc_isa.specs.declared.fields.Uses.{Uses}
use Rattle.tc_isa.specs.Rows.{RowData, table_rows, is_32_bit_row}
use Rattle.tc_isa.specs.Forms.{field_bounds, form_index}
use Rattle.tc_isa.specs.InBounds.{AreFieldsBelow}
use Rattle.tc_isa.specs.ValidRowFields.{IsRow, used_fields, are_unused_fields_zero, are_registers_allowed}
use Rattle.tc_isa.proofs.TableFacts.{row_at}
use Rattle.tc_lex.specs.declared.operand.Shape.{Shape}
use Rattle.tc_lex.specs.declared.operand.Shape.TheVariants as shape
use Rattle.tc_stmt.specs.declared.want.Field.{Field}
use Rattle.tc_stmt.specs.declared.want.Field.TheVariants.{C, S1, S2, N, K}
use Rattle.tc_stmt.specs.declared.want.Want.{Want}
use Rattle.tc_stmt.specs.declared.want.Want.TheVariants.{Reg, A10, Number, Target, Absolute, Memory}
use Rattle.tc_stmt.specs.declared.tally.Tally.{Tally}
use Rattle.tc_stmt.specs.Names.{is_source_name, rule_broken_by_symbol}
use Rattle.tc_lex.specs.Operands.{ValueData, OperandData}
use Rattle.tc_stmt.specs.Wants.{want_of, wants_of}
use Rattle.tc_stmt.specs.RowFields.{RowFieldsData, zero_fields, with_rule, set_field, field_of, with_field_value}
use Rattle.tc_stmt.specs.Items.{ReferenceData}
use Rattle.tc_stmt.specs.Filling.{fill_named_register, fill_number, reference_from_value, with_symbol, half_operand_relocation, fill_constant, fill_memory, fill_target, fill_address, fill_absolute, fill_register, check_a10, fill_plain_operand, fill_operand, fill_operands, note_equal_registers, fields_of_row, is_within_field_bound}
use Rattle.tc_stmt.specs.Displacements.{is_far_displacement, is_odd_displacement, rule_broken_by_displacement, with_displacement, target_operand_relocation}
use Rattle.tc_stmt.specs.OperandForms.{shape_index, register_number, operand_number_modulo, is_symbol_operand, is_half_operand}
use Rattle.tc_stmt.specs.StatementRow.{row_outcome, statement_outcome, found_row_or_next, row_of_statement}
use Rattle.tc_stmt.specs.StatementRow as judging
use Rattle.tc_isa.specs.Relocations.{is_relocation_kind, can_relocation_fill}
use Rattle.tc_stmt.specs.StatedRows.{can_take_symbol_directly, TakesSymbol, TakesSymbolIfAny, FieldsAndSymbolFitRow, IsRowOfStatement, StatementsFitRows}
use Rattle.tc_stmt.proofs.Cases.{by_test, one_passes}
use Rattle.tc_stmt.proofs.ZeroConstants.{zero_judged}

-- ---- rows and their wants
-- the row's text names the field
abbrev is_used : Field → Uses → Bool
is_used C u = u.c
is_used S1 u = u.s1
is_used S2 u = u.s2
is_used N u = u.n
is_used K u = u.k

-- the row has a field for the want, wide enough
abbrev suits : RowData → Want → Bool
suits r (Reg bank field) = is_used field (used_fields r) && nat_le 16 (field_of field (field_bounds r.form))
suits r A10 = true
suits r (Number signed field) = is_used field (used_fields r)
suits r Target = (used_fields r).k && cond (is_32_bit_row r) (can_relocation_fill r.form (target_operand_relocation r)) (can_take_symbol_directly r.form)
suits r Absolute = (used_fields r).k && nat_le (cond (form_index r.form == 8) (2 ^ 18) (2 ^ 24)) (field_bounds r.form).k && (form_index r.form == 8 || (is_32_bit_row r && can_relocation_fill r.form 2))
suits r (Memory plus offset) = (used_fields r).s2 && nat_le 16 (field_bounds r.form).s2 && (not offset || (used_fields r).k)

-- only rows of four bytes take a half of a symbol
abbrev halves_long : RowData → Bool
halves_long r = (half_operand_relocation r shape.High == 0 || (is_32_bit_row r && can_relocation_fill r.form (half_operand_relocation r shape.High))) && (half_operand_relocation r shape.Low == 0 || (is_32_bit_row r && can_relocation_fill r.form (half_operand_relocation r shape.Low)))

abbrev row_suits : RowData → Bool
row_suits r = list_all (suits r) (wants_of r) && halves_long r

all_suit : list_all row_suits table_rows ≡ true
unfolding wants_of want_of field_bounds form_index field_of half_operand_relocation shape_index target_operand_relocation can_relocation_fill
all_suit = refl

row_suit : (k : ℕ) (r : RowData) → slice_get table_rows k ≡ Some r → (list_all (suits r) (wants_of r) ≡ true) × (halves_long r ≡ true)
row_suit k r at = and_parts (list_all (suits r) (wants_of r)) (halves_long r) (one_passes row_suits table_rows k r all_suit at)

-- ---- the fields so far
pub record Sound (r : RowData) (f : RowFieldsData) : Type 0 where
  pub below : AreFieldsBelow f.fields (field_bounds r.form)
  pub zero : are_unused_fields_zero (used_fields r) f.fields ≡ true
  pub symbols : TakesSymbolIfAny r f.reference

record IfSound (r : RowData) (o : Option RowFieldsData) : Type 0 where
  some : (f : RowFieldsData) → o ≡ Some f → Sound r f

sound_some : (r : RowData) (f : RowFieldsData) → Sound r f → IfSound r (Some f)
sound_some r f s = record { some = λ g e. let same : f ≡ g = cc in subst (Sound r) same s }

sound_none : (r : RowData) → IfSound r None
sound_none r = record { some = λ g e. cc }

sound_broken : (r : RowData) (n : ℕ) (f : RowFieldsData) → Sound r f → Sound r (with_rule n f)
sound_broken r n f s = record { below = s.below; zero = s.zero; symbols = s.symbols }

-- ---- a single field
abbrev all_five : Bool → Bool → Bool → Bool → Bool → Bool
all_five a b c d e = a && b && c && d && e

pub zero_put : (field : Field) (u : Uses) (f : Fields) (v : ℕ) → is_used field u ≡ true → are_unused_fields_zero u f ≡ true → are_unused_fields_zero u (set_field field v f) ≡ true
unfolding set_field
zero_put C u f v h z = by u.c (f.c == 0) (v % 256 == 0) (u.s1 || f.s1 == 0) (u.s2 || f.s2 == 0) (u.n || f.n == 0) (u.k || f.k == 0) h z
  where
    by : (t a b p q r s : Bool) → t ≡ true → all_five (t || a) p q r s ≡ true → all_five (t || b) p q r s ≡ true
    by true a b p q r s h z = z
    by false a b p q r s h z = cc
zero_put S1 u f v h z = by u.s1 (f.s1 == 0) (v % 256 == 0) (u.c || f.c == 0) (u.s2 || f.s2 == 0) (u.n || f.n == 0) (u.k || f.k == 0) h z
  where
    by : (t a b p q r s : Bool) → t ≡ true → all_five p (t || a) q r s ≡ true → all_five p (t || b) q r s ≡ true
    by true a b p q r s h z = z
    by false a b p q r s h z = cc
zero_put S2 u f v h z = by u.s2 (f.s2 == 0) (v % 256 == 0) (u.c || f.c == 0) (u.s1 || f.s1 == 0) (u.n || f.n == 0) (u.k || f.k == 0) h z
  where
    by : (t a b p q r s : Bool) → t ≡ true → all_five p q (t || a) r s ≡ true → all_five p q (t || b) r s ≡ true
    by true a b p q r s h z = z
    by false a b p q r s h z = cc
zero_put N u f v h z = by u.n (f.n == 0) (v % 256 == 0) (u.c || f.c == 0) (u.s1 || f.s1 == 0) (u.s2 || f.s2 == 0) (u.k || f.k == 0) h z
  where
    by : (t a b p q r s : Bool) → t ≡ true → all_five p q r (t || a) s ≡ true → all_five p q r (t || b) s ≡ true
    by true a b p q r s h z = z
    by false a b p q r s h z = cc
zero_put K u f v h z = by u.k (f.k == 0) (v == 0) (u.c || f.c == 0) (u.s1 || f.s1 == 0) (u.s2 || f.s2 == 0) (u.n || f.n == 0) h z
  where
    by : (t a b p q r s : Bool) → t ≡ true → all_five p q r s (t || a) ≡ true → all_five p q r s (t || b) ≡ true
    by true a b p q r s h z = z
    by false a b p q r s h z = cc

byte_below : (v b : ℕ) → v < b → v % 256 < b
byte_below v b h = omega arith

below_put : (field : Field) (b f : Fields) (v : ℕ) → v < field_of field b → AreFieldsBelow f b → AreFieldsBelow (set_field field v f) b
unfolding set_field field_of
below_put C b f v h s = record { c = byte_below v b.c h; s1 = s.s1; s2 = s.s2; n = s.n; k = s.k }
below_put S1 b f v h s = record { c = s.c; s1 = byte_below v b.s1 h; s2 = s.s2; n = s.n; k = s.k }
below_put S2 b f v h s = record { c = s.c; s1 = s.s1; s2 = byte_below v b.s2 h; n = s.n; k = s.k }
below_put N b f v h s = record { c = s.c; s1 = s.s1; s2 = s.s2; n = byte_below v b.n h; k = s.k }
below_put K b f v h s = record { c = s.c; s1 = s.s1; s2 = s.s2; n = s.n; k = h }

sound_put : (r : RowData) (field : Field) (v : ℕ) (f : RowFieldsData) → is_used field (used_fields r) ≡ true → v < field_of field (field_bounds r.form) → Sound r f → Sound r (with_field_value field v f)
sound_put r field v f used less s = record {
  below = below_put field (field_bounds r.form) f.fields v less s.below;
  zero = zero_put field (used_fields r) f.fields v used s.zero;
  symbols = s.symbols;
}

more_than_none : (field : Field) (b f : Fields) → AreFieldsBelow f b → 0 < field_of field b
unfolding field_of
more_than_none C b f s = let h = s.c in omega arith
more_than_none S1 b f s = let h = s.s1 in omega arith
more_than_none S2 b f s = let h = s.s2 in omega arith
more_than_none N b f s = let h = s.n in omega arith
more_than_none K b f s = let h = s.k in omega arith

wrapped_below : (bound : ℕ) (minus : Bool) (size : ℕ) → 0 < bound → (minus ≡ false → size < bound) → operand_number_modulo bound minus size < bound
wrapped_below bound false size p h = h refl
wrapped_below bound true zero p h = p
wrapped_below bound true (suc n) p h = rw (eqb-suc-zero n) (omega arith)

-- ---- numbers and registers
fits_plus : (signed : Bool) (bound size : ℕ) → is_within_field_bound signed bound false size ≡ true → size < bound
unfolding is_within_field_bound
fits_plus true bound size e = let h = ltb-true size (bound / 2) e in omega arith
fits_plus false bound size e = ltb-true size bound e

sound_number : (r : RowData) (signed : Bool) (field : Field) (minus : Bool) (size : ℕ) (f : RowFieldsData) → is_used field (used_fields r) ≡ true → Sound r f → Sound r (fill_number r.form signed field minus size f)
unfolding fill_number
sound_number r signed field minus size f used s =
    let bound : ℕ = field_of field (field_bounds r.form) in
    by_test (Sound r) (is_within_field_bound signed (field_of field (field_bounds r.form)) minus size) _ _
    (λ b. sound_put r field (operand_number_modulo (field_of field (field_bounds r.form)) minus size) f used
    (wrapped_below (field_of field (field_bounds r.form)) minus size (more_than_none field (field_bounds r.form) f.fields s.below)
    (λ e. fits_plus signed (field_of field (field_bounds r.form)) size (ap (λ m. is_within_field_bound signed (field_of field (field_bounds r.form)) m size) (sym e) ∙ b))) s)
    (λ b. sound_broken r 5 f s)

sound_register : (r : RowData) (bank : Bool) (field : Field) (name : List ℕ) (f : RowFieldsData) → is_used field (used_fields r) ≡ true → nat_le 16 (field_of field (field_bounds r.form)) ≡ true → Sound r f → Sound r (fill_named_register bank field name f)
unfolding fill_named_register
sound_register r bank field name f used wide s =
    let bound = leb-true 16 (field_of field (field_bounds r.form)) wide in
    by_test (Sound r) _ _ _
    (λ b. sound_put r field (register_number name % 16) f used (small (register_number name) (field_of field (field_bounds r.form)) bound) s)
    (λ b. sound_broken r 4 f s)
  where
    small : (n b : ℕ) → 16 ≤ b → n % 16 < b
    small n b h = omega arith

-- ---- symbols
symbol_named : (v : ValueData) → (rule_broken_by_symbol v == 15) ≡ true → is_source_name v.name ≡ true
unfolding rule_broken_by_symbol
symbol_named v e = by (v.wide || nat_le (2 ^ 32) v.size) (is_source_name v.name) e
  where
    by : (a b : Bool) → (cond a 5 (cond b 15 9) == 15) ≡ true → b ≡ true
    by true b e = cc
    by false true e = refl
    by false false e = cc

sound_symbol : (r : RowData) (kind : ℕ) (v : ValueData) (f : RowFieldsData) → (is_relocation_kind kind ≡ true → (is_32_bit_row r ≡ true) × (can_relocation_fill r.form kind ≡ true)) → (kind ≡ 0 → ((used_fields r).k ≡ true) × (can_take_symbol_directly r.form ≡ true)) → Sound r f → Sound r (with_symbol kind v f)
unfolding with_symbol
sound_symbol r kind v f long target s =
    by_test (Sound r) (rule_broken_by_symbol v == 15) _ _
    (λ b. record { below = s.below; zero = s.zero; symbols = record { some = λ t e. subst (TakesSymbol r) (given t e) (record { named = symbol_named v b; long = long; target = target }) } })
    (λ b. sound_broken r (rule_broken_by_symbol v) f s)
  where
    given : (t : ReferenceData) → ◌≡◌ {A = Option ReferenceData} (Some (reference_from_value kind v)) (Some t) → reference_from_value kind v ≡ t
    given t e = cc

never : (n : ℕ) → n ≡ 0 → (n == 0) ≡ false → ⊥
never n z f = let t = (Decides-eqb n 0).1 z in cc

taken_half : (a b c : Bool) → (a || (b && c)) ≡ true → a ≡ false → (b ≡ true) × (c ≡ true)
taken_half true b c e f = cc
taken_half false b c e f = and_parts b c e

half_long : (r : RowData) (s : Shape) → halves_long r ≡ true → is_half_operand (shape_index s) ≡ true → (half_operand_relocation r s == 0) ≡ false → (is_32_bit_row r ≡ true) × (can_relocation_fill r.form (half_operand_relocation r s) ≡ true)
unfolding shape_index
half_long r shape.Absent all half some = cc
half_long r shape.Number all half some = cc
half_long r shape.Word all half some = cc
half_long r shape.Sum all half some = cc
half_long r shape.High all half some = taken_half (half_operand_relocation r shape.High == 0) (is_32_bit_row r) (can_relocation_fill r.form (half_operand_relocation r shape.High)) (and_parts _ (half_operand_relocation r shape.Low == 0 || (is_32_bit_row r && can_relocation_fill r.form (half_operand_relocation r shape.Low))) all).0 some
half_long r shape.Low all half some = taken_half (half_operand_relocation r shape.Low == 0) (is_32_bit_row r) (can_relocation_fill r.form (half_operand_relocation r shape.Low)) (and_parts (half_operand_relocation r shape.High == 0 || (is_32_bit_row r && can_relocation_fill r.form (half_operand_relocation r shape.High))) _ all).1 some
half_long r shape.Bad all half some = cc
half_long r shape.Huge all half some = cc

-- ---- values at their places
sound_value : (r : RowData) (signed : Bool) (field : Field) (v : ValueData) (f : RowFieldsData) → halves_long r ≡ true → is_used field (used_fields r) ≡ true → Sound r f → IfSound r (fill_constant r signed field v f)
unfolding fill_constant
sound_value r signed field v f halves used s =
    by_test (IfSound r) (shape_index v.shape == 1) _ _ (λ e. sound_some r _ (sound_number r signed field v.minus v.size f used s))
    (λ e. by_test (IfSound r) (shape_index v.shape == 7) _ _ (λ e. sound_some r _ (sound_broken r 5 f s))
    (λ e. by_test (IfSound r) (is_symbol_operand (shape_index v.shape)) _ _ (λ e. sound_some r _ (sound_broken r _ f s))
    (λ e. by_test (IfSound r) (is_half_operand (shape_index v.shape)) _ _
    (λ half. by_test (IfSound r) (half_operand_relocation r v.shape == 0) _ _ (λ e. sound_some r _ (sound_broken r _ f s))
    (λ some. sound_some r _ (sound_symbol r (half_operand_relocation r v.shape) v f (λ k. half_long r v.shape halves half some) (λ z. absurd (never (half_operand_relocation r v.shape) z some)) s)))
    (λ e. sound_none r))))

sound_memory : (r : RowData) (plus offset : Bool) (o : OperandData) (f : RowFieldsData) → halves_long r ≡ true → suits r (Memory plus offset) ≡ true → Sound r f → IfSound r (fill_memory r plus offset o f)
unfolding fill_memory field_of
sound_memory r plus offset o f halves suit s =
    let p = and_parts ((used_fields r).s2 && nat_le 16 (field_bounds r.form).s2) (not offset || (used_fields r).k) suit in
    let q = and_parts ((used_fields r).s2) (nat_le 16 (field_bounds r.form).s2) p.0 in
    let base : Sound r (fill_named_register true S2 o.base f) = sound_register r true S2 o.base f q.0 q.1 s in
    by_test (IfSound r) _ _ _
    (λ e. by_test (IfSound r) (shape_index o.value.shape == 0) _ _ (λ e. sound_some r _ base)
    (λ e. by_test (IfSound r) offset _ _ (λ is. sound_value r true K o.value (fill_named_register true S2 o.base f) halves (named offset (used_fields r).k is p.1) base) (λ e. sound_none r)))
    (λ e. sound_none r)
  where
    named : (a b : Bool) → a ≡ true → (not a || b) ≡ true → b ≡ true
    named true b e h = h
    named false b e h = cc

-- ---- targets
near : (r : RowData) (size : ℕ) → (rule_broken_by_displacement r false size == 15) ≡ true → 0 < (field_bounds r.form).k → size / 2 < (field_bounds r.form).k
unfolding rule_broken_by_displacement
near r size e some = by_form (form_index r.form == 13) (field_bounds r.form).k some (by_far (is_far_displacement r.form (field_bounds r.form).k false size) (is_32_bit_row r) (is_odd_displacement size) e)
  where
    by_far : (far long odd : Bool) → (min (cond far (cond long 5 11) 15) (cond odd 6 15) == 15) ≡ true → far ≡ false
    by_far true true true e = cc
    by_far true true false e = cc
    by_far true false true e = cc
    by_far true false false e = cc
    by_far false long odd e = refl

    by_form : (b : Bool) (bound : ℕ) → 0 < bound → cond b (nat_lt (2 * (bound - 1)) size) (nat_lt (bound - 2) size) ≡ false → size / 2 < bound
    by_form true bound some e = let h = ltb-false (2 * (bound - 1)) size e in omega arith
    by_form false bound some e = let h = ltb-false (bound - 2) size e in omega arith

pub sound_displaced : (r : RowData) (minus : Bool) (size : ℕ) (f : RowFieldsData) → (used_fields r).k ≡ true → Sound r f → Sound r (with_displacement r minus size f)
unfolding with_displacement field_of
sound_displaced r minus size f used s =
    let some : 0 < (field_bounds r.form).k = more_than_none K (field_bounds r.form) f.fields s.below in
    by_test (Sound r) (rule_broken_by_displacement r minus size == 15) _ _
    (λ b. sound_put r K (operand_number_modulo (field_bounds r.form).k minus (size / 2)) f used (wrapped_below (field_bounds r.form).k minus (size / 2) some (λ e. near r size (ap (λ m. rule_broken_by_displacement r m size == 15) (sym e) ∙ b) some)) s)
    (λ b. sound_broken r (rule_broken_by_displacement r minus size) f s)

is_target : (r : RowData) → is_relocation_kind (target_operand_relocation r) ≡ true → is_32_bit_row r ≡ true
unfolding target_operand_relocation
is_target r e = by_long (is_32_bit_row r) (cond (form_index r.form == 7) 1 3) e
  where
    by_long : (b : Bool) (n : ℕ) → is_relocation_kind (cond b n 0) ≡ true → b ≡ true
    by_long true n e = refl
    by_long false n e = cc

target_long : (r : RowData) → cond (is_32_bit_row r) (can_relocation_fill r.form (target_operand_relocation r)) (can_take_symbol_directly r.form) ≡ true → is_relocation_kind (target_operand_relocation r) ≡ true → (is_32_bit_row r ≡ true) × (can_relocation_fill r.form (target_operand_relocation r) ≡ true)
target_long r fit e = let long = is_target r e in (long, by (is_32_bit_row r) (can_relocation_fill r.form (target_operand_relocation r)) (can_take_symbol_directly r.form) long fit)
  where
    by : (a b c : Bool) → a ≡ true → cond a b c ≡ true → b ≡ true
    by true b c e h = h
    by false b c e h = cc

-- a target that takes no relocation is that of a jump of 16 bits
target_short : (r : RowData) → cond (is_32_bit_row r) (can_relocation_fill r.form (target_operand_relocation r)) (can_take_symbol_directly r.form) ≡ true → target_operand_relocation r ≡ 0 → can_take_symbol_directly r.form ≡ true
unfolding target_operand_relocation
target_short r fit e = by (is_32_bit_row r) (form_index r.form == 7) (can_relocation_fill r.form (target_operand_relocation r)) e fit
  where
    by : (a b c : Bool) → ◌≡◌ {A = ℕ} (cond a (cond b 1 3) 0) 0 → cond a c (can_take_symbol_directly r.form) ≡ true → can_take_symbol_directly r.form ≡ true
    by true true c z h = absurd (omega arith)
    by true false c z h = absurd (omega arith)
    by false b c z h = h

sound_target : (r : RowData) (v : ValueData) (f : RowFieldsData) → suits r Target ≡ true → Sound r f → IfSound r (fill_target r v f)
unfolding fill_target
sound_target r v f suit s =
    let used = (and_parts (used_fields r).k (cond (is_32_bit_row r) (can_relocation_fill r.form (target_operand_relocation r)) (can_take_symbol_directly r.form)) suit).0 in
    let fit = (and_parts (used_fields r).k (cond (is_32_bit_row r) (can_relocation_fill r.form (target_operand_relocation r)) (can_take_symbol_directly r.form)) suit).1 in
    by_test (IfSound r) (shape_index v.shape == 3 && bytes_eq v.name (codes ".")) _ _ (λ e. sound_some r _ (by_test (Sound r) v.wide _ _ (λ e. sound_broken r 5 f s) (λ e. sound_displaced r v.minus v.size f used s)))
    (λ e. by_test (IfSound r) (is_symbol_operand (shape_index v.shape)) _ _ (λ e. sound_some r _ (sound_symbol r (target_operand_relocation r) v f (target_long r fit) (λ z. (used, target_short r fit z)) s))
    (λ e. by_test (IfSound r) (is_half_operand (shape_index v.shape)) _ _ (λ e. sound_some r _ (sound_broken r _ f s)) (λ e. sound_none r)))

-- ---- absolute addresses
none_of : (a b : Bool) → (a || b) ≡ false → b ≡ false
none_of true b e = cc
none_of false b e = e

high_segment : (size bound : ℕ) → size < 2 ^ 32 → 2 ^ 18 ≤ bound → size / 2 ^ 28 * 2 ^ 14 + size % 2 ^ 14 < bound
high_segment size bound h room = omega arith

jump_segment : (size bound : ℕ) → size < 2 ^ 32 → 2 ^ 24 ≤ bound → size / 2 ^ 28 * 2 ^ 20 + size % 2 ^ 21 / 2 < bound
jump_segment size bound h room = omega arith

sound_address : (r : RowData) (minus : Bool) (size : ℕ) (f : RowFieldsData) → (used_fields r).k ≡ true → nat_le (cond (form_index r.form == 8) (2 ^ 18) (2 ^ 24)) (field_bounds r.form).k ≡ true → Sound r f → Sound r (fill_address r.form minus size f)
unfolding fill_address field_of
sound_address r minus size f used room s =
    by_test (Sound r) ((minus && not (size == 0)) || nat_le (2 ^ 32) size) _ _ (λ e. sound_broken r 5 f s)
    (λ e. let small = leb-false (2 ^ 32) size (none_of (minus && not (size == 0)) (nat_le (2 ^ 32) size) e) in
    by_test (Sound r) (form_index r.form == 8) _ _
    (λ form. by_test (Sound r) _ _ _
    (λ e. sound_put r K (size / 2 ^ 28 * 2 ^ 14 + size % 2 ^ 14) f used (high_segment size (field_bounds r.form).k small (leb-true (2 ^ 18) (field_bounds r.form).k (ap (λ b. nat_le (cond b (2 ^ 18) (2 ^ 24)) (field_bounds r.form).k) (sym form) ∙ room))) s)
    (λ e. sound_broken r 5 f s))
    (λ form. by_test (Sound r) _ _ _
    (λ e. sound_put r K (size / 2 ^ 28 * 2 ^ 20 + size % 2 ^ 21 / 2) f used (jump_segment size (field_bounds r.form).k small (leb-true (2 ^ 24) (field_bounds r.form).k (ap (λ b. nat_le (cond b (2 ^ 18) (2 ^ 24)) (field_bounds r.form).k) (sym form) ∙ room))) s)
    (λ e. sound_broken r 5 f s)))

sound_absolute : (r : RowData) (v : ValueData) (f : RowFieldsData) → suits r Absolute ≡ true → Sound r f → IfSound r (fill_absolute r v f)
unfolding fill_absolute
sound_absolute r v f suit s =
    let p = and_parts _ _ suit in
    let q = and_parts _ _ p.0 in
    by_test (IfSound r) (shape_index v.shape == 1) _ _ (λ e. sound_some r _ (sound_address r v.minus v.size f q.0 q.1 s))
    (λ e. by_test (IfSound r) (shape_index v.shape == 7) _ _ (λ e. sound_some r _ (sound_broken r 5 f s))
    (λ e. by_test (IfSound r) (is_symbol_operand (shape_index v.shape)) _ _
    (λ e. by_test (IfSound r) (form_index r.form == 8) _ _ (λ e. sound_some r _ (sound_broken r _ f s))
    (λ form. sound_some r _ (sound_symbol r 2 v f (λ k. taken_half (form_index r.form == 8) (is_32_bit_row r) (can_relocation_fill r.form 2) p.1 form) (λ z. absurd (omega arith)) s)))
    (λ e. by_test (IfSound r) (is_half_operand (shape_index v.shape)) _ _ (λ e. sound_some r _ (sound_broken r _ f s)) (λ e. sound_none r))))

-- ---- operands
sound_fill : (r : RowData) (w : Want) (o : OperandData) (f : RowFieldsData) → halves_long r ≡ true → suits r w ≡ true → Sound r f → IfSound r (fill_operand r w o f)
unfolding fill_operand fill_plain_operand fill_register check_a10
sound_fill r (Reg bank field) o f halves suit s =
    let p = and_parts (is_used field (used_fields r)) (nat_le 16 (field_of field (field_bounds r.form))) suit in
    by_test (IfSound r) o.is_memory _ _ (λ e. sound_none r)
    (λ e. by_test (IfSound r) (shape_index o.value.shape == 2) _ _ (λ e. sound_some r _ (sound_register r bank field o.value.name f p.0 p.1 s)) (λ e. sound_none r))
sound_fill r A10 o f halves suit s =
    by_test (IfSound r) o.is_memory _ _ (λ e. sound_none r)
    (λ e. by_test (IfSound r) (shape_index o.value.shape == 2) _ _ (λ e. by_test (IfSound r) _ _ _ (λ e. sound_some r _ s) (λ e. sound_some r _ (sound_broken r 4 f s))) (λ e. sound_none r))
sound_fill r (Number signed field) o f halves suit s = by_test (IfSound r) o.is_memory _ _ (λ e. sound_none r) (λ e. sound_value r signed field o.value f halves suit s)
sound_fill r Target o f halves suit s = by_test (IfSound r) o.is_memory _ _ (λ e. sound_none r) (λ e. sound_target r o.value f suit s)
sound_fill r Absolute o f halves suit s = by_test (IfSound r) o.is_memory _ _ (λ e. sound_none r) (λ e. sound_absolute r o.value f suit s)
sound_fill r (Memory plus offset) o f halves suit s = sound_memory r plus offset o f halves suit s

sound_then : (r : RowData) (next : RowFieldsData → Option RowFieldsData) (o : Option RowFieldsData) → IfSound r o → ((f : RowFieldsData) → Sound r f → IfSound r (next f)) → IfSound r (option_and_then next o)
sound_then r next None h more = sound_none r
sound_then r next (Some f) h more = more f (h.some f refl)

sound_all : (r : RowData) (ws : List Want) (os : List OperandData) (f : RowFieldsData) → halves_long r ≡ true → list_all (suits r) ws ≡ true → Sound r f → IfSound r (fill_operands r ws os f)
unfolding fill_operands
sound_all r [] [] f halves all s = sound_some r f s
sound_all r [] (o ∷ os) f halves all s = sound_none r
sound_all r (w ∷ ws) [] f halves all s = sound_none r
sound_all r (w ∷ ws) (o ∷ os) f halves all s =
    let p = and_parts (suits r w) (list_all (suits r) ws) all in
    sound_then r (fill_operands r ws os) (fill_operand r w o f) (sound_fill r w o f halves p.0 s) (λ g t. sound_all r ws os g halves p.1 t)

sound_nothing : (r : RowData) → IsRow r → Sound r zero_fields
sound_nothing r row = record {
  below = let b = row.has_least.below in
      let c = b.c in
      let s1 = b.s1 in
      let s2 = b.s2 in
      let n = b.n in
      let k = b.k in
      record { c = omega arith; s1 = omega arith; s2 = omega arith; n = omega arith; k = omega arith };
  zero = zeros (used_fields r).c (used_fields r).s1 (used_fields r).s2 (used_fields r).n (used_fields r).k;
  symbols = record { some = λ s e. cc };
}
  where
    or_true : (b : Bool) → (b || true) ≡ true
    or_true true = refl
    or_true false = refl

    zeros : (a b c d e : Bool) → all_five (a || true) (b || true) (c || true) (d || true) (e || true) ≡ true
    zeros a b c d e = rw (or_true a, or_true b, or_true c, or_true d, or_true e) refl

-- ---- a statement
sound_apart : (r : RowData) (g f : RowFieldsData) → Sound r g → note_equal_registers r g ≡ f → f.rule ≡ 15 → FieldsAndSymbolFitRow r f
sound_apart r g f s e rule = by (are_registers_allowed r g.fields) refl e
  where
    by : (b : Bool) → are_registers_allowed r g.fields ≡ b → cond b g (with_rule 12 g) ≡ f → FieldsAndSymbolFitRow r f
    by true is e = subst (FieldsAndSymbolFitRow r) e (record { fits = record { below = s.below; zero = s.zero; apart = is }; symbols = s.symbols })
    by false is e = let least : min g.rule 12 ≡ 15 = ap (λ (x : RowFieldsData). x.rule) e ∙ rule in absurd (omega arith)

sound_judged : (k : ℕ) (r : RowData) (os : List OperandData) (f : RowFieldsData) → slice_get table_rows k ≡ Some r → fields_of_row r (wants_of r) os ≡ Some f → f.rule ≡ 15 → FieldsAndSymbolFitRow r f
unfolding fields_of_row
sound_judged k r os f at e rule =
    let suit = row_suit k r at in
    by (fill_operands r (wants_of r) os zero_fields) (sound_all r (wants_of r) os zero_fields suit.1 suit.0 (sound_nothing r (row_at k r at))) e
  where
    by : (o : Option RowFieldsData) → IfSound r o → option_and_then (λ g. Some (note_equal_registers r g)) o ≡ Some f → FieldsAndSymbolFitRow r f
    by None h e = cc
    by (Some g) h e = let same : note_equal_registers r g ≡ f = cc in sound_apart r g f (h.some g refl) same rule

-- the row of a statement
record Chosen (os : List OperandData) (rows : List RowData) (place k : ℕ) (f : RowFieldsData) : Type 0 where
  at : ℕ
  row : RowData
  is_row : slice_get rows at ≡ Some row
  number : k ≡ place + at
  is : fields_of_row row (wants_of row) os ≡ Some f
  rule : f.rule ≡ 15

stepped_ok : (name : List ℕ) (os : List OperandData) (r : RowData) (t : Tally) (f : RowFieldsData) → row_outcome name os r t ≡ Ok f → (fields_of_row r (wants_of r) os ≡ Some f) × (f.rule ≡ 15)
unfolding row_outcome
stepped_ok name os r t f e = by (bytes_eq r.name name) (fields_of_row r (wants_of r) os) refl e
  where
    by_rule : (g : RowFieldsData) (b : Bool) → (g.rule == 15) ≡ b → fields_of_row r (wants_of r) os ≡ Some g → cond {A = Result RowFieldsData Tally} b (Ok g) (Err (record { named = true; fits = true; least = min t.least g.rule })) ≡ Ok f → (fields_of_row r (wants_of r) os ≡ Some f) × (f.rule ≡ 15)
    by_rule g true rule is e =
        let same : g ≡ f = cc in
        (is ∙ ap (λ (x : RowFieldsData). Some x) same, ap (λ (x : RowFieldsData). x.rule) (sym same) ∙ (Decides-eqb g.rule 15).0 rule)
    by_rule g false rule is e = cc

    by : (b : Bool) (o : Option RowFieldsData) → fields_of_row r (wants_of r) os ≡ o
        → cond {A = Result RowFieldsData Tally} b (option_map_or (λ (g : RowFieldsData). cond {A = Result RowFieldsData Tally} (g.rule == 15) (Ok g) (Err (record { named = true; fits = true; least = min t.least g.rule }))) o (Err (record t { named = true }))) (Err t) ≡ Ok f
        → (fields_of_row r (wants_of r) os ≡ Some f) × (f.rule ≡ 15)
    by false o is e = cc
    by true None is e = cc
    by true (Some g) is e = by_rule g (g.rule == 15) refl is e

chosen : (name : List ℕ) (os : List OperandData) (rows : List RowData) (place : ℕ) (t : Tally) (k : ℕ) (f : RowFieldsData) → statement_outcome name os rows place t ≡ Ok (k, f) → Chosen os rows place k f
unfolding statement_outcome
chosen name os [] place t k f e = cc
chosen name os (r ∷ rs) place t k f e = by (row_outcome name os r t) refl e (λ u g. chosen name os rs (place + 1) u k f g)
  where
    further : Chosen os rs (place + 1) k f → Chosen os (r ∷ rs) place k f
    further c = record { at = suc c.at; row = c.row; is_row = c.is_row; number = let n = c.number in omega arith; is = c.is; rule = c.rule }

    by : (q : Result RowFieldsData Tally) → row_outcome name os r t ≡ q → found_row_or_next q place (statement_outcome name os rs (place + 1)) ≡ Ok (k, f)
        → ((u : Tally) → statement_outcome name os rs (place + 1) u ≡ Ok (k, f) → Chosen os rs (place + 1) k f) → Chosen os (r ∷ rs) place k f
    by (Ok g) is e rec =
        let both : (place, g) ≡ (k, f) = cc in
        let same : g ≡ f = ap (λ (p : ℕ × RowFieldsData). p.1) both in
        let number : place ≡ k = ap (λ (p : ℕ × RowFieldsData). p.0) both in
        let ok = stepped_ok name os r t f (is ∙ ap (λ (x : RowFieldsData). Ok x) same) in
        record { at = 0; row = r; is_row = refl; number = omega arith; is = ok.0; rule = ok.1 }
    by (Err u) is e rec = further (rec u e)

pub stated : (name : List ℕ) (os : List OperandData) (k : ℕ) (f : RowFieldsData) → row_of_statement name os ≡ Ok (k, f) → IsRowOfStatement k f
stated name os k f e =
    let c = chosen name os table_rows 0 judging.empty_tally k f e in
    let same : c.at ≡ k = let n = c.number in omega arith in
    let at : slice_get table_rows k ≡ Some c.row = ap (slice_get table_rows) (sym same) ∙ c.is_row in
    record { row = c.row; at = at; stated = sound_judged k c.row os f at c.is c.rule; zero = (zero_judged k c.row os f at c.is).some }

pub stated_law : StatementsFitRows
stated_law name os k f e = stated name os k f e
