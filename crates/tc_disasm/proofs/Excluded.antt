-- A row with another form, or a rule broken, at some operand is refused.
use Rattle.std.proofs.Common.{◌≡◌, ◌<◌, ◌≤◌, ◌+◌, ◌/◌, ◌%◌, ◌==◌, ◌&&◌, ◌||◌, min, ℕ, Bool, true, false, cond, List, Option, Some, None, ap, sym, subst, ◌∙◌, arith}
use Rattle.std.specs.Prelude.{codes, not, nat_le, ◌*◌, ◌^◌, if◌then◌else◌}
use Rattle.std.specs.Str.{bytes_eq}
use Rattle.std.proofs.lemmas.Bool.{false≢true}
use Rattle.tc_isa.specs.Rows.{RowData}
use Rattle.tc_isa.specs.ValidRowFields.{are_bools_equal}
use Rattle.tc_isa.specs.Forms.{form_index}
use Rattle.tc_stmt.specs.declared.want.Field.{Field}
use Rattle.tc_stmt.specs.declared.want.Field.TheVariants.{S2, K}
use Rattle.tc_stmt.specs.declared.want.Want.{Want}
use Rattle.tc_stmt.specs.declared.want.Want.TheVariants.{Reg, A10, Number, Target, Absolute, Memory}
use Rattle.tc_lex.specs.Operands.{OperandData, ValueData, bracketed_operand}
use Rattle.tc_stmt.specs.RowFields.{RowFieldsData, with_rule, with_field_value}
use Rattle.tc_stmt.specs.Filling.{reference_from_value, fill_operand, fill_plain_operand, fill_register, check_a10, fill_constant, fill_memory, fill_target, fill_absolute, fill_named_register, fill_number, fill_address, with_symbol, with_misplaced_symbol, half_operand_relocation}
use Rattle.tc_stmt.specs.Names.{rule_broken_by_symbol}
use Rattle.tc_stmt.specs.Displacements.{target_operand_relocation, with_displacement}
use Rattle.tc_stmt.specs.OperandForms.{shape_index, register_number, is_symbol_operand, is_half_operand}
use Rattle.tc_disasm.specs.Texts.{register_text}
use Rattle.tc_disasm.specs.Refused.{AreRefusedOperands, StaysRefusedFolded}
use Rattle.tc_disasm.specs.Printable.{IsPrintableFor}
use Rattle.tc_disasm.specs.RowsApart.{is_want_refused_by}
use Rattle.tc_disasm.proofs.Registers.{register_of-text}

lower : (a b : ℕ) → min a b ≤ a
lower a b = omega arith

same : (a : ℕ) → a ≤ a
same a = omega arith

-- rules only fall
module _ (acc : RowFieldsData) where
  chosen : (b : Bool) (f g : RowFieldsData) → f.rule ≤ acc.rule → g.rule ≤ acc.rule → (cond b f g).rule ≤ acc.rule
  chosen true f g p q = p
  chosen false f g p q = q

  none : StaysRefusedFolded acc None
  none = record { is = tt }

  fell : (f : RowFieldsData) → f.rule ≤ acc.rule → StaysRefusedFolded acc (Some f)
  fell f h = record { is = h }

  or_else : (b : Bool) (f g : Option RowFieldsData) → StaysRefusedFolded acc f → StaysRefusedFolded acc g → StaysRefusedFolded acc (cond b f g)
  or_else true f g p q = p
  or_else false f g p q = q

  falls-put_register : (bank : Bool) (field : Field) (name : List ℕ) → (fill_named_register bank field name acc).rule ≤ acc.rule
  unfolding fill_named_register
  falls-put_register bank field name = chosen _ _ _ (same acc.rule) (lower acc.rule 4)

  falls-put_number : (r : RowData) (signed : Bool) (field : Field) (v : ValueData) → (fill_number r.form signed field v.minus v.size acc).rule ≤ acc.rule
  unfolding fill_number
  falls-put_number r signed field v = chosen _ _ _ (same acc.rule) (lower acc.rule 5)

  falls-with_symbol : (kind : ℕ) (v : ValueData) → (with_symbol kind v acc).rule ≤ acc.rule
  unfolding with_symbol
  falls-with_symbol kind v = chosen (rule_broken_by_symbol v == 15) (record acc { reference = Some (reference_from_value kind v) }) (with_rule (rule_broken_by_symbol v) acc) (same acc.rule) (lower acc.rule (rule_broken_by_symbol v))

  falls-value : (r : RowData) (signed : Bool) (field : Field) (v : ValueData) → StaysRefusedFolded acc (fill_constant r signed field v acc)
  unfolding fill_constant
  falls-value r signed field v =
      or_else (shape_index v.shape == 1) _ _ (fell (fill_number r.form signed field v.minus v.size acc) (falls-put_number r signed field v))
      (or_else (shape_index v.shape == 7) _ _ (fell (with_rule 5 acc) (lower acc.rule 5))
      (or_else (is_symbol_operand (shape_index v.shape)) _ _ (fell (with_misplaced_symbol v acc) (lower acc.rule (min 10 (rule_broken_by_symbol v))))
      (or_else (is_half_operand (shape_index v.shape)) _ _ (or_else (half_operand_relocation r v.shape == 0) _ _ (fell (with_misplaced_symbol v acc) (lower acc.rule (min 10 (rule_broken_by_symbol v)))) (fell (with_symbol (half_operand_relocation r v.shape) v acc) (falls-with_symbol (half_operand_relocation r v.shape) v))) none)))

  falls-displaced : (r : RowData) (minus : Bool) (size : ℕ) → (with_displacement r minus size acc).rule ≤ acc.rule
  unfolding with_displacement
  falls-displaced r minus size = chosen _ _ _ (same acc.rule) (lower acc.rule _)

  pub falls-target : (r : RowData) (v : ValueData) → StaysRefusedFolded acc (fill_target r v acc)
  unfolding fill_target
  falls-target r v =
      or_else (shape_index v.shape == 3 && bytes_eq v.name (codes ".")) _ _ (fell (cond v.wide (with_rule 5 acc) (with_displacement r v.minus v.size acc)) (chosen v.wide (with_rule 5 acc) (with_displacement r v.minus v.size acc) (lower acc.rule 5) (falls-displaced r v.minus v.size)))
      (or_else (is_symbol_operand (shape_index v.shape)) _ _ (fell (with_symbol (target_operand_relocation r) v acc) (falls-with_symbol (target_operand_relocation r) v))
      (or_else (is_half_operand (shape_index v.shape)) _ _ (fell (with_misplaced_symbol v acc) (lower acc.rule (min 10 (rule_broken_by_symbol v)))) none))

  falls-put_absolute : (r : RowData) (minus : Bool) (size : ℕ) → (fill_address r.form minus size acc).rule ≤ acc.rule
  unfolding fill_address
  falls-put_absolute r minus size =
      let abs = with_field_value K (size / 2 ^ 28 * 2 ^ 14 + size % 2 ^ 14) acc in
      let far = with_field_value K (size / 2 ^ 28 * 2 ^ 20 + size % 2 ^ 21 / 2) acc in
      chosen ((minus && not (size == 0)) || nat_le (2 ^ 32) size) (with_rule 5 acc) _ (lower acc.rule 5)
      (chosen (form_index r.form == 8) _ _
      (chosen (size / 2 ^ 14 % 2 ^ 14 == 0) abs (with_rule 5 acc) (same acc.rule) (lower acc.rule 5))
      (chosen (size / 2 ^ 21 % 2 ^ 7 == 0 && size % 2 == 0) far (with_rule 5 acc) (same acc.rule) (lower acc.rule 5)))

  falls-absolute : (r : RowData) (v : ValueData) → StaysRefusedFolded acc (fill_absolute r v acc)
  unfolding fill_absolute
  falls-absolute r v =
      or_else (shape_index v.shape == 1) _ _ (fell (fill_address r.form v.minus v.size acc) (falls-put_absolute r v.minus v.size))
      (or_else (shape_index v.shape == 7) _ _ (fell (with_rule 5 acc) (lower acc.rule 5))
      (or_else (is_symbol_operand (shape_index v.shape)) _ _ (or_else (form_index r.form == 8) _ _ (fell (with_misplaced_symbol v acc) (lower acc.rule (min 10 (rule_broken_by_symbol v)))) (fell (with_symbol 2 v acc) (falls-with_symbol 2 v)))
      (or_else (is_half_operand (shape_index v.shape)) _ _ (fell (with_misplaced_symbol v acc) (lower acc.rule (min 10 (rule_broken_by_symbol v)))) none)))

  falls-a10 : (v : ValueData) → StaysRefusedFolded acc (check_a10 v acc)
  unfolding check_a10
  falls-a10 v = or_else (shape_index v.shape == 2) _ _ (or_else (bytes_eq v.name (codes "a10")) _ _ (fell acc (same acc.rule)) (fell (with_rule 4 acc) (lower acc.rule 4))) none

  falls-register : (bank : Bool) (field : Field) (v : ValueData) → StaysRefusedFolded acc (fill_register bank field v acc)
  unfolding fill_register
  falls-register bank field v = or_else (shape_index v.shape == 2) _ _ (fell (fill_named_register bank field v.name acc) (falls-put_register bank field v.name)) none

under : (acc b : RowFieldsData) (o : Option RowFieldsData) → b.rule ≤ acc.rule → StaysRefusedFolded b o → StaysRefusedFolded acc o
under acc b None h p = record { is = tt }
under acc b (Some f) h p = let at : f.rule ≤ b.rule = p.is in record { is = omega (arith, at) }

falls-memory : (acc : RowFieldsData) (r : RowData) (plus offset : Bool) (o : OperandData) → StaysRefusedFolded acc (fill_memory r plus offset o acc)
unfolding fill_memory
falls-memory acc r plus offset o =
    let first = fill_named_register true S2 o.base acc in
    let below = falls-put_register acc true S2 o.base in
    or_else acc (o.is_memory && (if o.plus then plus else not plus)) _ _ (or_else acc (shape_index o.value.shape == 0) _ _ (fell acc first below) (or_else acc offset _ _ (under acc first _ below (falls-value first r true K o.value)) (none acc))) (none acc)

pub falls : (acc : RowFieldsData) (r : RowData) (w : Want) (o : OperandData) → StaysRefusedFolded acc (fill_operand r w o acc)
unfolding fill_operand fill_plain_operand
falls acc r (Reg p x) o = or_else acc o.is_memory _ _ (none acc) (falls-register acc p x o.value)
falls acc r A10 o = or_else acc o.is_memory _ _ (none acc) (falls-a10 acc o.value)
falls acc r (Number s x) o = or_else acc o.is_memory _ _ (none acc) (falls-value acc r s x o.value)
falls acc r Target o = or_else acc o.is_memory _ _ (none acc) (falls-target acc r o.value)
falls acc r Absolute o = or_else acc o.is_memory _ _ (none acc) (falls-absolute acc r o.value)
falls acc r (Memory p u) o = falls-memory acc r p u o

misplaced_there : (a n : ℕ) → min a (min 10 n) < 15
misplaced_there a n = omega arith

refused-bank : (acc : RowFieldsData) (p q : Bool) (y : Field) (n : ℕ) → n < 16 → not (are_bools_equal p q) ≡ true → (fill_named_register q y (register_text p n) acc).rule < 15
unfolding fill_named_register
refused-bank acc true true y n h e = absurd (false≢true e)
refused-bank acc false false y n h e = absurd (false≢true e)
refused-bank acc true false y n h e =
    let bank : (16 + n) / 16 ≡ 1 = omega arith in
    let reg : register_number (register_text true n) / 16 ≡ 1 = ap (λ m. m / 16) (register_of-text true n h) ∙ bank in
    subst (λ (m : ℕ). (cond (m == 0) (with_field_value y (register_number (register_text true n) % 16) acc) (with_rule 4 acc)).rule < 15) (sym reg) (omega arith)
refused-bank acc false true y n h e =
    let bank : (0 + n) / 16 ≡ 0 = omega arith in
    let reg : register_number (register_text false n) / 16 ≡ 0 = ap (λ m. m / 16) (register_of-text false n h) ∙ bank in
    subst (λ (m : ℕ). (cond (m == 1) (with_field_value y (register_number (register_text false n) % 16) acc) (with_rule 4 acc)).rule < 15) (sym reg) (omega arith)

refused-plus : (r : RowData) (acc : RowFieldsData) (p q offset : Bool) (text : List ℕ) (v : ValueData) → not (are_bools_equal p q) ≡ true → AreRefusedOperands (fill_operand r (Memory q offset) (bracketed_operand p text v) acc)
unfolding fill_operand fill_memory
refused-plus r acc true true offset text v e = absurd (false≢true e)
refused-plus r acc false false offset text v e = absurd (false≢true e)
refused-plus r acc true false offset text v e = tt
refused-plus r acc false true offset text v e = tt

-- the operand printed for a want is refused by each want that it excludes
pub refused-there : (r : RowData) (acc : RowFieldsData) (w v : Want) (o : OperandData) → is_want_refused_by w v ≡ true → IsPrintableFor w o → AreRefusedOperands (fill_operand r v o acc)
unfolding is_want_refused_by fill_operand fill_plain_operand fill_register check_a10 fill_constant fill_memory fill_target fill_absolute shape_index
refused-there r acc (Reg p x) (Reg q y) o e b = subst (λ (q2 : OperandData). AreRefusedOperands (fill_operand r (Reg q y) q2 acc)) (sym b.2) (refused-bank acc p q y b.0 b.1 e)
refused-there r acc (Reg p x) A10 o e b = absurd (false≢true e)
refused-there r acc (Reg p x) (Number s2 y) o e b = subst (λ (q2 : OperandData). AreRefusedOperands (fill_operand r (Number s2 y) q2 acc)) (sym b.2) (misplaced_there acc.rule _)
refused-there r acc (Reg p x) Target o e b = absurd (false≢true e)
refused-there r acc (Reg p x) Absolute o e b = absurd (false≢true e)
refused-there r acc (Reg p x) (Memory q u2) o e b = subst (λ (q2 : OperandData). AreRefusedOperands (fill_operand r (Memory q u2) q2 acc)) (sym b.2) tt
refused-there r acc A10 (Reg q y) o e b = absurd (false≢true e)
refused-there r acc A10 A10 o e b = absurd (false≢true e)
refused-there r acc A10 (Number s2 y) o e b = absurd (false≢true e)
refused-there r acc A10 Target o e b = absurd (false≢true e)
refused-there r acc A10 Absolute o e b = absurd (false≢true e)
refused-there r acc A10 (Memory q u2) o e b = absurd (false≢true e)
refused-there r acc (Number s x) (Reg q y) o e b = subst (λ (q2 : OperandData). AreRefusedOperands (fill_operand r (Reg q y) q2 acc)) (sym b.2) tt
refused-there r acc (Number s x) A10 o e b = subst (λ (q2 : OperandData). AreRefusedOperands (fill_operand r A10 q2 acc)) (sym b.2) tt
refused-there r acc (Number s x) (Number s2 y) o e b = absurd (false≢true e)
refused-there r acc (Number s x) Target o e b = subst (λ (q2 : OperandData). AreRefusedOperands (fill_operand r Target q2 acc)) (sym b.2) tt
refused-there r acc (Number s x) Absolute o e b = absurd (false≢true e)
refused-there r acc (Number s x) (Memory q u2) o e b = subst (λ (q2 : OperandData). AreRefusedOperands (fill_operand r (Memory q u2) q2 acc)) (sym b.2) tt
refused-there r acc Target (Reg q y) o e b = subst (λ (q2 : OperandData). AreRefusedOperands (fill_operand r (Reg q y) q2 acc)) (sym b.2) tt
refused-there r acc Target A10 o e b = subst (λ (q2 : OperandData). AreRefusedOperands (fill_operand r A10 q2 acc)) (sym b.2) tt
refused-there r acc Target (Number s2 y) o e b = subst (λ (q2 : OperandData). AreRefusedOperands (fill_operand r (Number s2 y) q2 acc)) (sym b.2) (misplaced_there acc.rule _)
refused-there r acc Target Target o e b = absurd (false≢true e)
refused-there r acc Target Absolute o e b = absurd (false≢true e)
refused-there r acc Target (Memory q u2) o e b = subst (λ (q2 : OperandData). AreRefusedOperands (fill_operand r (Memory q u2) q2 acc)) (sym b.2) tt
refused-there r acc Absolute (Reg q y) o e b = subst (λ (q2 : OperandData). AreRefusedOperands (fill_operand r (Reg q y) q2 acc)) (sym b.1) tt
refused-there r acc Absolute A10 o e b = subst (λ (q2 : OperandData). AreRefusedOperands (fill_operand r A10 q2 acc)) (sym b.1) tt
refused-there r acc Absolute (Number s2 y) o e b = absurd (false≢true e)
refused-there r acc Absolute Target o e b = subst (λ (q2 : OperandData). AreRefusedOperands (fill_operand r Target q2 acc)) (sym b.1) tt
refused-there r acc Absolute Absolute o e b = absurd (false≢true e)
refused-there r acc Absolute (Memory q u2) o e b = subst (λ (q2 : OperandData). AreRefusedOperands (fill_operand r (Memory q u2) q2 acc)) (sym b.1) tt
refused-there r acc (Memory p u) (Reg q y) o e b = subst (λ (q2 : OperandData). AreRefusedOperands (fill_operand r (Reg q y) q2 acc)) (sym b.2) tt
refused-there r acc (Memory p u) A10 o e b = subst (λ (q2 : OperandData). AreRefusedOperands (fill_operand r A10 q2 acc)) (sym b.2) tt
refused-there r acc (Memory p u) (Number s2 y) o e b = subst (λ (q2 : OperandData). AreRefusedOperands (fill_operand r (Number s2 y) q2 acc)) (sym b.2) tt
refused-there r acc (Memory p u) Target o e b = subst (λ (q2 : OperandData). AreRefusedOperands (fill_operand r Target q2 acc)) (sym b.2) tt
refused-there r acc (Memory p u) Absolute o e b = subst (λ (q2 : OperandData). AreRefusedOperands (fill_operand r Absolute q2 acc)) (sym b.2) tt
refused-there r acc (Memory p u) (Memory q u2) o e b = subst (λ (q2 : OperandData). AreRefusedOperands (fill_operand r (Memory q u2) q2 acc)) (sym b.2) (refused-plus r acc p q u2 (register_text true b.0) b.1 e)
