-- A printed instruction is judged as the same row, with the same fields.
use Rattle.std.proofs.Common.{◌≡◌, ◌*◌, ◌==◌, ◌||◌, ℕ, zero, suc, Bool, true, false, cond, List, [], ◌∷◌, Some, Ok, refl, ap, sym, ◌∙◌, arith, map, append-nil}
use Rattle.std.proofs.lemmas.Bool.{and_parts}
use Rattle.std.specs.Prelude.{slice_get, fold, option_and_then, codes}
use Rattle.std.specs.List.{list_all, list_any}
use Rattle.std.specs.Fmt.{decimal}
use Rattle.std.proofs.lemmas.Bool.Decides.{nat_tests}
use Rattle.tc_isa.specs.Rows.{RowData, table_rows}
use Rattle.tc_isa.specs.declared.fields.Fields.{Fields}
use Rattle.tc_isa.specs.Forms.{field_bounds, fields}
use Rattle.tc_isa.specs.InBounds.{AreFieldsBelow, FieldsFitTheirBits}
use Rattle.tc_isa.specs.ValidRowFields.{used_fields, are_unused_fields_zero, FieldsFitRow}
use Rattle.tc_isa.specs.Insts.{InstData, IsInst, inst_fields}
use Rattle.tc_isa.proofs.Shaped.{small}
use Rattle.tc_lex.specs.declared.operand.Shape.TheVariants as shape
use Rattle.tc_stmt.specs.declared.want.Field.TheVariants.{C, S1, S2, N, K}
use Rattle.tc_stmt.specs.declared.want.Want.{Want}
use Rattle.tc_stmt.specs.declared.want.Want.TheVariants.{Reg, A10, Number, Target, Absolute, Memory}
use Rattle.tc_stmt.specs.Wants.{wants_of}
use Rattle.tc_disasm.specs.GivenFields.{with_fields_set_by_want, fields_set_by_wants, is_field_set_by_want}
use Rattle.tc_lex.specs.Operands.{operand_of_tokens, plain_operand, number_operand_value, sum_operand_value}
use Rattle.tc_stmt.specs.StatementRow.{row_of_statement}
use Rattle.tc_stmt.specs.RowFields.{zero_fields, with_rule, field_of}
use Rattle.tc_stmt.specs.Filling.{fields_of_row, note_equal_registers}
use Rattle.tc_disasm.specs.Texts.{register_text, is_printed_negative, printed_magnitude, absolute_text, absolute_operand_address}
use Rattle.tc_stmt.specs.Displacements.{can_jump_back}
use Rattle.tc_disasm.specs.Tokens.{operand_tokens, printed_operands, base_register_tokens}
use Rattle.tc_disasm.specs.Printable.{IsPrintableFor, ArePrintableFor}
use Rattle.tc_disasm.proofs.Decimals.{some_is, number_of-decimal}
use Rattle.tc_disasm.proofs.Bounds.{field_of-below}
use Rattle.tc_disasm.proofs.Given.{field_of-fold}
use Rattle.tc_disasm.proofs.Hexes.{number_of-hex}
use Rattle.tc_disasm.proofs.OperandLaws.{operand-word, operand-number, operand-target, operand-base, operand-offset}
use Rattle.tc_disasm.proofs.Filled.{operand-one}
use Rattle.tc_disasm.proofs.OwnFields.{fill_all-printed, small_of, at_most, size_of-small, halved, address-small}
use Rattle.tc_disasm.proofs.OwnRow.{statement_is}
use Rattle.tc_disasm.proofs.Suits.{suits, wants_suit}
use Rattle.tc_disasm.proofs.Tables.{uses_are}

-- ---- the fields come back
uses_at : (rows : List RowData) (k : ℕ) (r : RowData) → map used_fields rows ≡ map (λ s. fields_set_by_wants (wants_of s)) rows → slice_get rows k ≡ Some r → used_fields r ≡ fields_set_by_wants (wants_of r)
uses_at [] k r e at = cc
uses_at (x ∷ xs) zero r e at =
    let here : used_fields x ≡ fields_set_by_wants (wants_of x) = cc in
    ap used_fields (sym (some_is x r at)) ∙ here ∙ ap (λ s. fields_set_by_wants (wants_of s)) (some_is x r at)
uses_at (x ∷ xs) (suc k) r e at = let more : map used_fields xs ≡ map (λ s. fields_set_by_wants (wants_of s)) xs = cc in uses_at xs k r more at

zero_of : (b : Bool) (n : ℕ) → (b || n == 0) ≡ true → cond b n 0 ≡ n
zero_of true n e = refl
zero_of false n e = grind (arith, nat_tests)

pub fields_back : (f : Fields) (ws : List Want) → FieldsFitTheirBits f → are_unused_fields_zero (fields_set_by_wants ws) f ≡ true → fold (with_fields_set_by_want f) (fields 0 0 0 0 0) ws ≡ f
unfolding fields_set_by_wants field_of
fields_back f ws small rest =
    let four = and_parts _ (list_any (is_field_set_by_want K) ws || f.k == 0) rest in
    let three = and_parts _ (list_any (is_field_set_by_want N) ws || f.n == 0) four.0 in
    let two = and_parts _ (list_any (is_field_set_by_want S2) ws || f.s2 == 0) three.0 in
    let one = and_parts (list_any (is_field_set_by_want C) ws || f.c == 0) (list_any (is_field_set_by_want S1) ws || f.s1 == 0) two.0 in
    let g = fold (with_fields_set_by_want f) (fields 0 0 0 0 0) ws in
    let c : g.c ≡ f.c = field_of-fold C f (fields 0 0 0 0 0) ws small ∙ zero_of (list_any (is_field_set_by_want C) ws) f.c one.0 in
    let s1 : g.s1 ≡ f.s1 = field_of-fold S1 f (fields 0 0 0 0 0) ws small ∙ zero_of (list_any (is_field_set_by_want S1) ws) f.s1 one.1 in
    let s2 : g.s2 ≡ f.s2 = field_of-fold S2 f (fields 0 0 0 0 0) ws small ∙ zero_of (list_any (is_field_set_by_want S2) ws) f.s2 two.1 in
    let n : g.n ≡ f.n = field_of-fold N f (fields 0 0 0 0 0) ws small ∙ zero_of (list_any (is_field_set_by_want N) ws) f.n three.1 in
    let k : g.k ≡ f.k = field_of-fold K f (fields 0 0 0 0 0) ws small ∙ zero_of (list_any (is_field_set_by_want K) ws) f.k four.1 in
    ap (λ x. fields x g.s1 g.s2 g.n g.k) c ∙ ap (λ x. fields f.c x g.s2 g.n g.k) s1 ∙ ap (λ x. fields f.c f.s1 x g.n g.k) s2 ∙ ap (λ x. fields f.c f.s1 f.s2 x g.k) n ∙ ap (λ x. fields f.c f.s1 f.s2 f.n x) k

-- ---- the text printed for each want
printed_one : (r : RowData) (f : Fields) (w : Want) → suits r.form w ≡ true → AreFieldsBelow f (field_bounds r.form) → IsPrintableFor w (operand_of_tokens (operand_tokens r.form f w))
unfolding suits operand_tokens
printed_one r f (Reg bank field) s h =
    let below = field_of-below field f (field_bounds r.form) h in
    let most = at_most (field_of field (field_bounds r.form)) 16 s in
    (field_of field f, omega arith, operand-word (register_text bank (field_of field f)))
printed_one r f A10 s h = operand-word (codes "a10")
printed_one r f (Number signed field) s h =
    let bound = field_of field (field_bounds r.form) in
    let v = field_of field f in
    let below = field_of-below field f (field_bounds r.form) h in
    let small = number_of-decimal (printed_magnitude signed bound v) (halved (printed_magnitude signed bound v) (size_of-small signed bound v below (small_of bound s))) in
    (is_printed_negative signed bound v, printed_magnitude signed bound v, operand-number (is_printed_negative signed bound v) (printed_magnitude signed bound v) ∙ ap (λ n. plain_operand (number_operand_value (is_printed_negative signed bound v) n)) small)
printed_one r f Target s h =
    let bound = (field_bounds r.form).k in
    let both_ways = can_jump_back r.form in
    let small = number_of-decimal (2 * printed_magnitude both_ways bound f.k) (size_of-small both_ways bound f.k h.k (small_of bound s)) in (
      is_printed_negative both_ways bound f.k,
      2 * printed_magnitude both_ways bound f.k,
      operand-target (is_printed_negative both_ways bound f.k) (codes ".") (decimal (2 * printed_magnitude both_ways bound f.k)) ∙ ap (λ n. plain_operand (sum_operand_value shape.Sum (codes ".") (is_printed_negative both_ways bound f.k) n)) small,
    )
printed_one r f Absolute s h = unfold absolute_text in (absolute_operand_address r.form f, operand-one (absolute_text r.form f) ∙ ap (λ n. plain_operand (number_operand_value false n)) (number_of-hex (absolute_operand_address r.form f) (address-small r f)))
printed_one r f (Memory plus true) s h =
    (f.s2, _, operand-offset plus (is_printed_negative true (field_bounds r.form).k f.k) f.s2 (printed_magnitude true (field_bounds r.form).k f.k))
printed_one r f (Memory plus false) s h = (f.s2, _, ap operand_of_tokens (append-nil (base_register_tokens plus f.s2)) ∙ operand-base plus f.s2)

printed_all : (r : RowData) (f : Fields) (ws : List Want) → list_all (suits r.form) ws ≡ true → AreFieldsBelow f (field_bounds r.form) → ArePrintableFor ws (map (λ w. operand_of_tokens (operand_tokens r.form f w)) ws)
printed_all r f [] s h = tt
printed_all r f (w ∷ ws) s h =
    let two = and_parts (suits r.form w) (list_all (suits r.form) ws) s in
    (printed_one r f w two.0 h, printed_all r f ws two.1 h)

-- ---- the row itself
judged-printed : (k : ℕ) (r : RowData) (f : Fields) → slice_get table_rows k ≡ Some r → FieldsFitRow r f → FieldsFitTheirBits f → fields_of_row r (wants_of r) (printed_operands r f) ≡ Some (record zero_fields { fields = f })
unfolding fields_of_row
judged-printed k r f at fits small =
    let rest : are_unused_fields_zero (fields_set_by_wants (wants_of r)) f ≡ true = ap (λ u. are_unused_fields_zero u f) (sym (uses_at table_rows k r uses_are at)) ∙ fits.zero in
    ap (option_and_then (λ g. Some (note_equal_registers r g))) (fill_all-printed r f (wants_of r) zero_fields (wants_suit k r at) fits.below)
    ∙ ap (λ g. Some (note_equal_registers r (record zero_fields { fields = g }))) (fields_back f (wants_of r) small rest)
    ∙ ap (λ b. Some (cond b (record zero_fields { fields = f }) (with_rule 12 (record zero_fields { fields = f })))) fits.apart

-- the statement of an instruction's name and printed operands is the instruction
pub statement-printed : (i : InstData) (is : IsInst i) → row_of_statement is.row.name (printed_operands is.row (inst_fields i)) ≡ Ok (i.row, record zero_fields { fields = inst_fields i })
statement-printed i is =
    statement_is i.row is.row (printed_operands is.row (inst_fields i)) (record zero_fields { fields = inst_fields i }) is.at
    (printed_all is.row (inst_fields i) (wants_of is.row) (wants_suit i.row is.row is.at) is.fits.below)
    (judged-printed i.row is.row (inst_fields i) is.at is.fits (small i is))
    refl
