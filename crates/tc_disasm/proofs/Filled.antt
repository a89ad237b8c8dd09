-- Printed operands fill their fields again.
use Rattle.std.proofs.Common.{◌≡◌, ◌<◌, ◌+◌, ◌*◌, ◌-◌, ◌/◌, ◌%◌, ◌^◌, ◌==◌, ℕ, Bool, true, false, cond, List, [], ◌∷◌, Some, refl, ap, ◌∙◌, arith}
use Rattle.std.specs.Prelude.{codes, min, not, nat_lt, nat_le, ◌&&◌}
use Rattle.std.proofs.lemmas.Bool.Decides.{nat_tests}
use Rattle.tc_lex.specs.declared.kinds.TokenKind.TheVariants as kind
use Rattle.tc_isa.specs.Forms.{form_index, field_bounds}
use Rattle.tc_isa.specs.Rows.{is_32_bit_row, RowData}
use Rattle.tc_isa.specs.FromFields.{address_in_constant, code_address_in_constant}
use Rattle.tc_isa.specs.declared.fields.Fields.{Fields}
use Rattle.tc_stmt.specs.declared.want.Field.TheVariants.{K}
use Rattle.std.specs.Fmt.{decimal}
use Rattle.tc_lex.specs.declared.operand.Shape.TheVariants as shape
use Rattle.tc_stmt.specs.declared.want.Field.{Field}
use Rattle.tc_stmt.specs.declared.want.Want.TheVariants.{Reg, Number, Target}
use Rattle.tc_lex.specs.Operands.{operand_of_tokens, operand_value_at, operand_number_at, symbol_value_at, name_or_sum_at, value_with_shape, plain_operand, number_operand_value, sum_operand_value}
use Rattle.tc_lex.specs.Pieces.{is_token_kind, token_text, kind_index}
use Rattle.tc_lex.specs.Numbers.{token_number}
use Rattle.tc_stmt.specs.RowFields.{RowFieldsData, with_field_value, with_rule, field_of}
use Rattle.tc_stmt.specs.Filling.{fill_operand, fill_plain_operand, fill_register, fill_constant, fill_target, fill_named_register, fill_number}
use Rattle.tc_stmt.specs.Displacements.{with_displacement, rule_broken_by_displacement, is_odd_displacement, can_jump_back}
use Rattle.tc_stmt.specs.OperandForms.{shape_index, operand_number_modulo}
use Rattle.tc_disasm.specs.Texts.{register_text, is_printed_negative, printed_magnitude}
use Rattle.tc_disasm.specs.Tokens.{field_number_tokens, printed_token, target_tokens}
use Rattle.tc_disasm.proofs.Registers.{register_of-text}
use Rattle.tc_disasm.proofs.Signs.{fits-printed, wrapped-printed}
use Rattle.tc_disasm.proofs.Decimals.{number_of-decimal}
use Rattle.tc_disasm.proofs.Targets.{near_signed, near_unsigned, half}
use Rattle.tc_disasm.proofs.OperandLaws.{operand-number, operand-target}

bank_is : (bank : Bool) (n : ℕ) → n < 16 → ((cond bank 16 0 + n) / 16 ≡ cond bank 1 0) × ((cond bank 16 0 + n) % 16 ≡ n)
bank_is true n h = (omega arith, omega arith)
bank_is false n h = (omega arith, omega arith)

same_test : (bank : Bool) → (cond bank 1 0 == cond bank 1 0) ≡ true
same_test true = refl
same_test false = refl

pub put_register-text : (bank : Bool) (field : Field) (n : ℕ) (acc : RowFieldsData) → n < 16 → fill_named_register bank field (register_text bank n) acc ≡ with_field_value field n acc
unfolding fill_named_register
put_register-text bank field n acc h =
    let is = bank_is bank n h in
    ap (λ r. cond (r / 16 == cond bank 1 0) (with_field_value field (r % 16) acc) (with_rule 4 acc)) (register_of-text bank n h)
    ∙ ap (λ q. cond (q == cond bank 1 0) (with_field_value field ((cond bank 16 0 + n) % 16) acc) (with_rule 4 acc)) is.0
    ∙ ap (λ b. cond b (with_field_value field ((cond bank 16 0 + n) % 16) acc) (with_rule 4 acc)) (same_test bank)
    ∙ ap (λ m. with_field_value field m acc) is.1

pub fill-register : (r : RowData) (bank : Bool) (field : Field) (n : ℕ) (acc : RowFieldsData) → n < 16 → fill_operand r (Reg bank field) (plain_operand (value_with_shape shape.Word (register_text bank n) false 0)) acc ≡ Some (with_field_value field n acc)
unfolding fill_operand fill_plain_operand fill_register shape_index
fill-register r bank field n acc h = ap (λ f. Some f) (put_register-text bank field n acc h)

pub put_number-printed : (r : RowData) (signed : Bool) (field : Field) (v : ℕ) (acc : RowFieldsData) → v < field_of field (field_bounds r.form) → field_of field (field_bounds r.form) % 2 ≡ 0
    → fill_number r.form signed field (is_printed_negative signed (field_of field (field_bounds r.form)) v) (printed_magnitude signed (field_of field (field_bounds r.form)) v) acc ≡ with_field_value field v acc
unfolding fill_number
put_number-printed r signed field v acc h even =
    let bound = field_of field (field_bounds r.form) in
    ap (λ b. cond b (with_field_value field (operand_number_modulo bound (is_printed_negative signed bound v) (printed_magnitude signed bound v)) acc) (with_rule 5 acc)) (fits-printed signed bound v h even)
    ∙ ap (λ w. with_field_value field w acc) (wrapped-printed signed bound v h even)

-- a printed constant, read and filled in
pub fill-number : (r : RowData) (signed : Bool) (field : Field) (v : ℕ) (acc : RowFieldsData) → v < field_of field (field_bounds r.form) → field_of field (field_bounds r.form) % 2 ≡ 0 → printed_magnitude signed (field_of field (field_bounds r.form)) v < 2 ^ 64
    → fill_operand r (Number signed field) (operand_of_tokens (field_number_tokens signed (field_of field (field_bounds r.form)) v)) acc ≡ Some (with_field_value field v acc)
unfolding fill_operand fill_plain_operand fill_constant shape_index
fill-number r signed field v acc h even small =
    let bound = field_of field (field_bounds r.form) in
    ap (λ o. fill_operand r (Number signed field) o acc) (operand-number (is_printed_negative signed bound v) (printed_magnitude signed bound v))
    ∙ ap (λ n. fill_operand r (Number signed field) (plain_operand (number_operand_value (is_printed_negative signed bound v) n)) acc) (number_of-decimal (printed_magnitude signed bound v) small)
    ∙ ap (λ f. Some f) (put_number-printed r signed field v acc h even)

-- ---- targets
-- a printed displacement isn't too far
near : (one_way : Bool) (bound v : ℕ) → v < bound → bound % 2 ≡ 0
    → cond one_way (cond (is_printed_negative (not one_way) bound v) (not (2 * printed_magnitude (not one_way) bound v == 0)) (nat_lt (2 * (bound - 1)) (2 * printed_magnitude (not one_way) bound v)))
    (cond (is_printed_negative (not one_way) bound v) (nat_lt bound (2 * printed_magnitude (not one_way) bound v)) (nat_lt (bound - 2) (2 * printed_magnitude (not one_way) bound v))) ≡ false
near true bound v h even = near_unsigned bound v h
near false bound v h even = near_signed bound v h even

even_twice : (n : ℕ) → is_odd_displacement (2 * n) ≡ false
even_twice n = grind (arith, nat_tests)

rule-printed : (r : RowData) (v : ℕ) → v < (field_bounds r.form).k → (field_bounds r.form).k % 2 ≡ 0
    → rule_broken_by_displacement r (is_printed_negative (can_jump_back r.form) (field_bounds r.form).k v) (2 * printed_magnitude (can_jump_back r.form) (field_bounds r.form).k v) ≡ 15
unfolding rule_broken_by_displacement can_jump_back
rule-printed r v h even =
    let minus = is_printed_negative (not (form_index r.form == 13)) (field_bounds r.form).k v in
    let size = printed_magnitude (not (form_index r.form == 13)) (field_bounds r.form).k v in
    ap (λ b. min (cond b (cond (is_32_bit_row r) 5 11) 15) (cond (is_odd_displacement (2 * size)) 6 15)) (near (form_index r.form == 13) (field_bounds r.form).k v h even)
    ∙ ap (λ b. min 15 (cond b 6 15)) (even_twice size)

displaced-printed : (r : RowData) (v : ℕ) (acc : RowFieldsData) → v < (field_bounds r.form).k → (field_bounds r.form).k % 2 ≡ 0
    → with_displacement r (is_printed_negative (can_jump_back r.form) (field_bounds r.form).k v) (2 * printed_magnitude (can_jump_back r.form) (field_bounds r.form).k v) acc ≡ with_field_value K v acc
unfolding with_displacement
displaced-printed r v acc h even =
    let bound = (field_bounds r.form).k in
    let minus = is_printed_negative (can_jump_back r.form) bound v in
    let size = printed_magnitude (can_jump_back r.form) bound v in
    ap (λ n. cond (n == 15) (with_field_value K (operand_number_modulo bound minus (2 * size / 2)) acc) (with_rule n acc)) (rule-printed r v h even)
    ∙ ap (λ n. with_field_value K (operand_number_modulo bound minus n) acc) (half size)
    ∙ ap (λ n. with_field_value K n acc) (wrapped-printed (can_jump_back r.form) bound v h even)

pub fill-target : (r : RowData) (v : ℕ) (acc : RowFieldsData) → v < (field_bounds r.form).k → (field_bounds r.form).k % 2 ≡ 0 → 2 * printed_magnitude (can_jump_back r.form) (field_bounds r.form).k v < 2 ^ 64
    → fill_operand r Target (operand_of_tokens (target_tokens (can_jump_back r.form) (field_bounds r.form).k v)) acc ≡ Some (with_field_value K v acc)
unfolding fill_operand fill_plain_operand fill_target shape_index
fill-target r v acc h even small =
    let minus = is_printed_negative (can_jump_back r.form) (field_bounds r.form).k v in
    let size = printed_magnitude (can_jump_back r.form) (field_bounds r.form).k v in
    ap (λ o. fill_operand r Target o acc) (operand-target minus (codes ".") (decimal (2 * size)))
    ∙ ap (λ n. fill_operand r Target (plain_operand (sum_operand_value shape.Sum (codes ".") minus n)) acc) (number_of-decimal (2 * size) small)
    ∙ ap (λ f. Some f) (displaced-printed r v acc h even)

-- ---- absolute addresses
pub operand-one : (text : List ℕ) → operand_of_tokens (printed_token kind.Number text ∷ []) ≡ plain_operand (number_operand_value false (token_number text))
unfolding operand_of_tokens operand_value_at operand_number_at symbol_value_at name_or_sum_at is_token_kind token_text kind_index
operand-one text = refl

-- the address of an ABS row, and of a B row
pub place-put : (f : Fields) (acc : RowFieldsData) → f.k < 2 ^ 18 → cond (nat_le (2 ^ 32) (address_in_constant f)) (with_rule 5 acc) (cond (address_in_constant f / 2 ^ 14 % 2 ^ 14 == 0) (with_field_value K (address_in_constant f / 2 ^ 28 * 2 ^ 14 + address_in_constant f % 2 ^ 14) acc) (with_rule 5 acc)) ≡ with_field_value K f.k acc
place-put f acc h =
    let low : nat_le (2 ^ 32) (address_in_constant f) ≡ false = grind (arith, nat_tests) in
    let gap : (address_in_constant f / 2 ^ 14 % 2 ^ 14 == 0) ≡ true = grind (arith, nat_tests) in
    let back : address_in_constant f / 2 ^ 28 * 2 ^ 14 + address_in_constant f % 2 ^ 14 ≡ f.k = omega arith in
    rw (low, gap, back) refl

pub code_place-put : (f : Fields) (acc : RowFieldsData) → f.k < 2 ^ 24 → cond (nat_le (2 ^ 32) (code_address_in_constant f)) (with_rule 5 acc) (cond (code_address_in_constant f / 2 ^ 21 % 2 ^ 7 == 0 && code_address_in_constant f % 2 == 0) (with_field_value K (code_address_in_constant f / 2 ^ 28 * 2 ^ 20 + code_address_in_constant f % 2 ^ 21 / 2) acc) (with_rule 5 acc)) ≡ with_field_value K f.k acc
code_place-put f acc h =
    let low : nat_le (2 ^ 32) (code_address_in_constant f) ≡ false = grind (arith, nat_tests) in
    let gap : (code_address_in_constant f / 2 ^ 21 % 2 ^ 7 == 0) ≡ true = grind (arith, nat_tests) in
    let even : (code_address_in_constant f % 2 == 0) ≡ true = grind (arith, nat_tests) in
    let back : code_address_in_constant f / 2 ^ 28 * 2 ^ 20 + code_address_in_constant f % 2 ^ 21 / 2 ≡ f.k = omega arith in
    rw (low, gap, even, back) refl
