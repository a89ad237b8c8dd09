-- A printed statement is its own row's.
use Rattle.std.proofs.Common.{◌≡◌, ◌<◌, ◌≤◌, ◌==◌, ◌||◌, min, ℕ, Bool, true, false, cond, List, [], ◌∷◌, Option, Some, None, Ok, Err, refl, ap, subst, arith}
use Rattle.std.specs.Prelude.{option_and_then}
use Rattle.std.specs.Option.{option_map_or}
use Rattle.std.specs.Str.{bytes_eq}
use Rattle.std.proofs.lemmas.Bool.{false≢true}
use Rattle.std.proofs.lemmas.Bool.Decides.{nat_tests}
use Rattle.tc_isa.specs.Rows.{RowData}
use Rattle.tc_isa.specs.ValidRowFields.{are_registers_allowed}
use Rattle.tc_stmt.specs.declared.tally.Tally.{Tally}
use Rattle.tc_stmt.specs.declared.want.Want.{Want}
use Rattle.tc_stmt.specs.Wants.{wants_of}
use Rattle.tc_lex.specs.Operands.{OperandData}
use Rattle.tc_stmt.specs.RowFields.{RowFieldsData, zero_fields, with_rule}
use Rattle.tc_stmt.specs.Filling.{fill_operand, fill_operands, fields_of_row, note_equal_registers}
use Rattle.tc_stmt.specs.StatementRow.{row_outcome}
use Rattle.tc_disasm.specs.Refused.{AreRefusedOperands, StaysRefused}
use Rattle.tc_disasm.specs.Printable.{ArePrintableFor}
use Rattle.tc_disasm.specs.RowsApart.{is_want_refused_by, are_wants_refused_by}
use Rattle.tc_disasm.proofs.Excluded.{falls, refused-there}

then_refused : (next : RowFieldsData → Option RowFieldsData) (o : Option RowFieldsData) → ((f : RowFieldsData) → o ≡ Some f → AreRefusedOperands (next f)) → AreRefusedOperands (option_and_then next o)
then_refused next None k = tt
then_refused next (Some f) k = k f refl

-- a broken rule refuses the row, whatever operands follow
stays-refused : (r : RowData) (vs : List Want) (os : List OperandData) (acc : RowFieldsData) → acc.rule < 15 → AreRefusedOperands (fill_operands r vs os acc)
unfolding fill_operands
stays-refused r [] [] acc h = h
stays-refused r [] (o ∷ os) acc h = tt
stays-refused r (v ∷ vs) [] acc h = tt
stays-refused r (v ∷ vs) (o ∷ os) acc h =
    then_refused (fill_operands r vs os) (fill_operand r v o acc)
    (λ f e. let less : f.rule ≤ acc.rule = subst (StaysRefused acc) e (falls acc r v o).is in stays-refused r vs os f (omega (arith, less)))

refused-all : (r : RowData) (ws vs : List Want) (os : List OperandData) (acc : RowFieldsData) → are_wants_refused_by ws vs ≡ true → ArePrintableFor ws os → AreRefusedOperands (fill_operands r vs os acc)
unfolding fill_operands are_wants_refused_by
refused-all r [] [] os acc e p = absurd (false≢true e)
refused-all r [] (v ∷ vs) [] acc e p = tt
refused-all r [] (v ∷ vs) (o ∷ os) acc e p = absurd p
refused-all r (w ∷ ws) vs [] acc e p = absurd p
refused-all r (w ∷ ws) [] (o ∷ os) acc e p = tt
refused-all r (w ∷ ws) (v ∷ vs) (o ∷ os) acc e p = by_first (is_want_refused_by w v) refl e (λ d f. refused-all r ws vs os f d p.1)
  where
    by_first : (b : Bool) → is_want_refused_by w v ≡ b → (b || are_wants_refused_by ws vs) ≡ true → (are_wants_refused_by ws vs ≡ true → (f : RowFieldsData) → AreRefusedOperands (fill_operands r vs os f)) → AreRefusedOperands (option_and_then (fill_operands r vs os) (fill_operand r v o acc))
    by_first true is d rest = then_refused (fill_operands r vs os) (fill_operand r v o acc) (λ f at. stays-refused r vs os f (subst AreRefusedOperands at (refused-there r acc w v o is p.0)))
    by_first false is d rest = then_refused (fill_operands r vs os) (fill_operand r v o acc) (λ f at. rest d f)

lower : (r : RowData) (f : RowFieldsData) → f.rule < 15 → (note_equal_registers r f).rule < 15
lower r f h = by_test (are_registers_allowed r f.fields)
  where
    by_test : (b : Bool) → (cond b f (with_rule 12 f)).rule < 15
    by_test true = h
    by_test false = omega (arith, h)

pub refused-judged : (r : RowData) (ws vs : List Want) (os : List OperandData) → are_wants_refused_by ws vs ≡ true → ArePrintableFor ws os → AreRefusedOperands (fields_of_row r vs os)
unfolding fields_of_row
refused-judged r ws vs os d p = then_refused (λ f. Some (note_equal_registers r f)) (fill_operands r vs os zero_fields) (λ f e. lower r f (subst AreRefusedOperands e (refused-all r ws vs os zero_fields d p)))

-- the search continues after a row that refuses
pub goes_on : (name : List ℕ) (os : List OperandData) (r : RowData) (t : Tally) → AreRefusedOperands (fields_of_row r (wants_of r) os) → (u : Tally) × (row_outcome name os r t ≡ Err u)
unfolding row_outcome
goes_on name os r t refused = by_name (bytes_eq r.name name) (fields_of_row r (wants_of r) os) refused
  where
    small : (f : RowFieldsData) → f.rule < 15 → (f.rule == 15) ≡ false
    small f h = grind (arith, nat_tests)

    by_name : (b : Bool) (o : Option RowFieldsData) → AreRefusedOperands o
        → (u : Tally) × (cond b (option_map_or (λ f. cond (f.rule == 15) (Ok f) (Err (record { named = true; fits = true; least = min t.least f.rule }))) o (Err (record t { named = true }))) (Err t) ≡ Err u)
    by_name false o h = (t, refl)
    by_name true None h = (_, refl)
    by_name true (Some f) h = (_, ap (λ c. cond c (Ok f) (Err (record { named = true; fits = true; least = min t.least f.rule }))) (small f h))
