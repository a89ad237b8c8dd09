-- Printed operands give a row its own fields.
use Rattle.std.proofs.Common.{◌≡◌, ◌<◌, ◌≤◌, ◌+◌, ◌*◌, ◌-◌, ◌/◌, ◌%◌, ◌^◌, ◌==◌, ◌&&◌, ◌||◌, ℕ, Bool, true, false, cond, List, [], ◌∷◌, ◌++◌, Some, refl, ap, ◌∙◌, arith, map}
use Rattle.std.proofs.lemmas.Bool.{and_parts}
use Rattle.std.specs.Prelude.{codes, nat_le, not, fold, option_and_then}
use Rattle.std.specs.List.{list_all}
use Rattle.std.proofs.lemmas.Bool.Decides.{nat_tests}
use Rattle.tc_isa.specs.Rows.{RowData}
use Rattle.tc_isa.specs.declared.fields.Fields.{Fields}
use Rattle.tc_isa.specs.Forms.{field_bounds, form_index}
use Rattle.tc_isa.specs.InBounds.{AreFieldsBelow}
use Rattle.tc_isa.specs.FromFields.{address_in_constant, code_address_in_constant}
use Rattle.tc_lex.specs.declared.operand.Shape.TheVariants as shape
use Rattle.tc_stmt.specs.declared.want.Field.TheVariants.{S2, K}
use Rattle.tc_stmt.specs.declared.want.Want.{Want}
use Rattle.tc_stmt.specs.declared.want.Want.TheVariants.{Reg, A10, Number, Target, Absolute, Memory}
use Rattle.tc_lex.specs.Operands.{operand_of_tokens, value_with_shape, plain_operand, bracketed_operand, number_operand_value}
use Rattle.tc_stmt.specs.RowFields.{RowFieldsData, with_field_value, with_rule, field_of}
use Rattle.tc_stmt.specs.Filling.{fill_operand, fill_operands, fill_plain_operand, check_a10, fill_constant, fill_memory, fill_absolute, fill_address, fill_named_register, fill_number}
use Rattle.tc_stmt.specs.OperandForms.{shape_index}
use Rattle.tcd_text.specs.HexNumbers.{hex_word}
use Rattle.tc_disasm.specs.Texts.{register_text, is_printed_negative, printed_magnitude, absolute_text, absolute_operand_address}
use Rattle.tc_stmt.specs.Displacements.{can_jump_back}
use Rattle.tc_disasm.specs.Tokens.{operand_tokens, base_register_tokens, number_tokens}
use Rattle.tc_disasm.specs.GivenFields.{with_fields_set_by_want}
use Rattle.tc_disasm.proofs.Decimals.{number_of-decimal}
use Rattle.tc_disasm.proofs.Hexes.{number_of-hex}
use Rattle.tc_disasm.proofs.Bounds.{field_of-below}
use Rattle.tc_disasm.proofs.Suits.{suits, is_bound}
use Rattle.tc_disasm.proofs.OperandLaws.{operand-word, operand-base, operand-offset}
use Rattle.tc_disasm.proofs.Filled.{fill-register, fill-number, fill-target, put_register-text, put_number-printed, operand-one, place-put, code_place-put}

pub even_of : (b : ℕ) → is_bound b ≡ true → b % 2 ≡ 0
even_of b e = let p = (and_parts (b % 2 == 0) (nat_le b (2 ^ 24)) e).0 in grind (arith, nat_tests)

pub small_of : (b : ℕ) → is_bound b ≡ true → b ≤ 2 ^ 24
small_of b e = let p = (and_parts (b % 2 == 0) (nat_le b (2 ^ 24)) e).1 in grind (arith, nat_tests)

pub at_most : (a b : ℕ) → nat_le a b ≡ true → a ≤ b
at_most a b e = grind (arith, nat_tests)

same_of : (a b : ℕ) → (a == b) ≡ true → a ≡ b
same_of a b e = grind (arith, nat_tests)

pub size_of-small : (signed : Bool) (bound v : ℕ) → v < bound → bound ≤ 2 ^ 24 → 2 * printed_magnitude signed bound v < 2 ^ 64
size_of-small signed bound v h small = by_sign (is_printed_negative signed bound v)
  where
    by_sign : (b : Bool) → 2 * cond b (bound - v) v < 2 ^ 64
    by_sign true = omega arith
    by_sign false = omega arith

pub halved : (n : ℕ) → 2 * n < 2 ^ 64 → n < 2 ^ 64
halved n h = omega arith

-- the address that fields name
pub address-small : (r : RowData) (f : Fields) → absolute_operand_address r.form f < 2 ^ 32
unfolding absolute_operand_address
address-small r f = by_form (form_index r.form == 8)
  where
    by_form : (b : Bool) → cond b (address_in_constant f) (code_address_in_constant f) < 2 ^ 32
    by_form true = omega arith
    by_form false = omega arith

-- the constant of an absolute address, by the form
put_absolute-printed : (r : RowData) (f : Fields) (acc : RowFieldsData) → suits r.form Absolute ≡ true → AreFieldsBelow f (field_bounds r.form) → fill_address r.form false (absolute_operand_address r.form f) acc ≡ with_field_value K f.k acc
unfolding fill_address absolute_operand_address suits
put_absolute-printed r f acc s h = by_form (form_index r.form == 8) ((field_bounds r.form).k == 2 ^ 18) ((field_bounds r.form).k == 2 ^ 24) refl refl s
  where
    short : ((field_bounds r.form).k == 2 ^ 18) ≡ true → f.k < 2 ^ 18
    short e = let is = same_of (field_bounds r.form).k (2 ^ 18) e in let k = h.k in omega arith

    long : ((field_bounds r.form).k == 2 ^ 24) ≡ true → f.k < 2 ^ 24
    long e = let is = same_of (field_bounds r.form).k (2 ^ 24) e in let k = h.k in omega arith

    by_form : (a b d : Bool) → ((field_bounds r.form).k == 2 ^ 18) ≡ b → ((field_bounds r.form).k == 2 ^ 24) ≡ d → cond a b d ≡ true
        → cond ((false && not (cond a (address_in_constant f) (code_address_in_constant f) == 0)) || nat_le (2 ^ 32) (cond a (address_in_constant f) (code_address_in_constant f))) (with_rule 5 acc)
        (cond a
        (cond (cond a (address_in_constant f) (code_address_in_constant f) / 2 ^ 14 % 2 ^ 14 == 0) (with_field_value K (cond a (address_in_constant f) (code_address_in_constant f) / 2 ^ 28 * 2 ^ 14 + cond a (address_in_constant f) (code_address_in_constant f) % 2 ^ 14) acc) (with_rule 5 acc))
        (cond (cond a (address_in_constant f) (code_address_in_constant f) / 2 ^ 21 % 2 ^ 7 == 0 && cond a (address_in_constant f) (code_address_in_constant f) % 2 == 0) (with_field_value K (cond a (address_in_constant f) (code_address_in_constant f) / 2 ^ 28 * 2 ^ 20 + cond a (address_in_constant f) (code_address_in_constant f) % 2 ^ 21 / 2) acc) (with_rule 5 acc))) ≡ with_field_value K f.k acc
    by_form true b d eb ed e = place-put f acc (short (eb ∙ e))
    by_form false b d eb ed e = code_place-put f acc (long (ed ∙ e))

fill-absolute : (r : RowData) (f : Fields) (acc : RowFieldsData) → suits r.form Absolute ≡ true → AreFieldsBelow f (field_bounds r.form) → fill_operand r Absolute (operand_of_tokens (operand_tokens r.form f Absolute)) acc ≡ Some (with_field_value K f.k acc)
unfolding operand_tokens fill_operand fill_plain_operand fill_absolute shape_index absolute_text
fill-absolute r f acc s h =
    ap (λ o. fill_operand r Absolute o acc) (operand-one (48 ∷ 120 ∷ hex_word (absolute_operand_address r.form f)))
    ∙ ap (λ n. fill_operand r Absolute (plain_operand (number_operand_value false n)) acc) (number_of-hex (absolute_operand_address r.form f) (address-small r f))
    ∙ ap (λ x. Some x) (put_absolute-printed r f acc s h)

-- ---- memory
fill-base : (r : RowData) (plus : Bool) (n : ℕ) (acc : RowFieldsData) → n < 16 → fill_operand r (Memory plus false) (operand_of_tokens (base_register_tokens plus n ++ [])) acc ≡ Some (with_field_value S2 n acc)
unfolding fill_operand fill_memory shape_index
fill-base r true n acc h = ap (λ o. fill_operand r (Memory true false) o acc) (operand-base true n) ∙ ap (λ x. Some x) (put_register-text true S2 n acc h)
fill-base r false n acc h = ap (λ o. fill_operand r (Memory false false) o acc) (operand-base false n) ∙ ap (λ x. Some x) (put_register-text true S2 n acc h)

fill-offset : (r : RowData) (plus : Bool) (n v : ℕ) (acc : RowFieldsData) → n < 16 → v < (field_bounds r.form).k → is_bound (field_bounds r.form).k ≡ true
    → fill_operand r (Memory plus true) (operand_of_tokens (base_register_tokens plus n ++ number_tokens (is_printed_negative true (field_bounds r.form).k v) (printed_magnitude true (field_bounds r.form).k v))) acc ≡ Some (with_field_value K v (with_field_value S2 n acc))
unfolding fill_operand fill_memory fill_constant shape_index
fill-offset r plus n v acc h below bound =
    let minus = is_printed_negative true (field_bounds r.form).k v in
    let size = printed_magnitude true (field_bounds r.form).k v in
    ap (λ o. fill_operand r (Memory plus true) o acc) (operand-offset plus minus n size)
    ∙ ap (λ m. fill_operand r (Memory plus true) (bracketed_operand plus (register_text true n) (number_operand_value minus m)) acc) (number_of-decimal size (halved size (size_of-small true (field_bounds r.form).k v below (small_of (field_bounds r.form).k bound))))
    ∙ by_plus plus
    ∙ ap (λ x. Some (fill_number r.form true K minus size x)) (put_register-text true S2 n acc h)
    ∙ ap (λ x. Some x) (put_number-offset (with_field_value S2 n acc))
  where
    by_plus : (p : Bool) → fill_operand r (Memory p true) (bracketed_operand p (register_text true n) (value_with_shape shape.Number [] (is_printed_negative true (field_bounds r.form).k v) (printed_magnitude true (field_bounds r.form).k v))) acc ≡ Some (fill_number r.form true K (is_printed_negative true (field_bounds r.form).k v) (printed_magnitude true (field_bounds r.form).k v) (fill_named_register true S2 (register_text true n) acc))
    by_plus true = refl
    by_plus false = refl

    put_number-offset : (x : RowFieldsData) → fill_number r.form true K (is_printed_negative true (field_bounds r.form).k v) (printed_magnitude true (field_bounds r.form).k v) x ≡ with_field_value K v x
    put_number-offset x = unfold field_of in put_number-printed r true K v x below (even_of (field_bounds r.form).k bound)

-- ---- each operand
pub fill-printed : (r : RowData) (f : Fields) (w : Want) (acc : RowFieldsData) → suits r.form w ≡ true → AreFieldsBelow f (field_bounds r.form) → fill_operand r w (operand_of_tokens (operand_tokens r.form f w)) acc ≡ Some (record acc { fields = with_fields_set_by_want f acc.fields w })
unfolding suits operand_tokens with_fields_set_by_want fill_operand fill_plain_operand check_a10 shape_index
fill-printed r f (Reg bank field) acc s h =
    let below = field_of-below field f (field_bounds r.form) h in
    let most = at_most (field_of field (field_bounds r.form)) 16 s in
    ap (λ o. fill_operand r (Reg bank field) o acc) (operand-word (register_text bank (field_of field f))) ∙ fill-register r bank field (field_of field f) acc (omega arith)
fill-printed r f A10 acc s h = ap (λ o. fill_operand r A10 o acc) (operand-word (codes "a10"))
fill-printed r f (Number signed field) acc s h =
    let below = field_of-below field f (field_bounds r.form) h in
    let bound = field_of field (field_bounds r.form) in
    fill-number r signed field (field_of field f) acc below (even_of bound s) (halved (printed_magnitude signed bound (field_of field f)) (size_of-small signed bound (field_of field f) below (small_of bound s)))
fill-printed r f Target acc s h = fill-target r f.k acc h.k (even_of (field_bounds r.form).k s) (size_of-small (can_jump_back r.form) (field_bounds r.form).k f.k h.k (small_of (field_bounds r.form).k s))
fill-printed r f Absolute acc s h = fill-absolute r f acc s h
fill-printed r f (Memory plus true) acc s h =
    let two = and_parts (nat_le (field_bounds r.form).s2 16) (is_bound (field_bounds r.form).k) s in
    let most = at_most (field_bounds r.form).s2 16 two.0 in
    let below = h.s2 in
    fill-offset r plus f.s2 f.k acc (omega arith) h.k two.1
fill-printed r f (Memory plus false) acc s h =
    let most = at_most (field_bounds r.form).s2 16 s in
    let below = h.s2 in
    fill-base r plus f.s2 acc (omega arith)

-- ---- all operands
pub fill_all-printed : (r : RowData) (f : Fields) (ws : List Want) (acc : RowFieldsData) → list_all (suits r.form) ws ≡ true → AreFieldsBelow f (field_bounds r.form)
    → fill_operands r ws (map (λ w. operand_of_tokens (operand_tokens r.form f w)) ws) acc ≡ Some (record acc { fields = fold (with_fields_set_by_want f) acc.fields ws })
unfolding fill_operands
fill_all-printed r f [] acc s h = refl
fill_all-printed r f (w ∷ ws) acc s h =
    let two = and_parts (suits r.form w) (list_all (suits r.form) ws) s in
    ap (option_and_then (fill_operands r ws (map (λ v. operand_of_tokens (operand_tokens r.form f v)) ws))) (fill-printed r f w acc two.0 h)
    ∙ fill_all-printed r f ws (record acc { fields = with_fields_set_by_want f acc.fields w }) two.1 h
