-- A printed statement is read as its own row.
use Rattle.std.proofs.Common.{◌≡◌, ◌<◌, ◌+◌, ◌==◌, ◌&&◌, ◌||◌, min, zero, suc, ℕ, Bool, true, false, cond, List, [], ◌∷◌, Option, Some, Result, Ok, Err, refl, ap, sym, ◌∙◌, arith, map, add-zero}
use Rattle.std.proofs.lemmas.Bool.{and_parts}
use Rattle.std.specs.Prelude.{slice_get, not}
use Rattle.std.specs.Option.{option_map_or}
use Rattle.std.specs.List.{list_all}
use Rattle.std.specs.Str.{bytes_eq}
use Rattle.std.proofs.lemmas.Slice.Eq.{bytes_eq-Decides}
use Rattle.tc_isa.specs.Rows.{RowData, table_rows}
use Rattle.tc_stmt.specs.declared.tally.Tally.{Tally}
use Rattle.tc_stmt.specs.Wants.{wants_of}
use Rattle.tc_lex.specs.Operands.{OperandData}
use Rattle.tc_stmt.specs.RowFields.{RowFieldsData}
use Rattle.tc_stmt.specs.Filling.{fields_of_row}
use Rattle.tc_stmt.specs.StatementRow.{row_outcome, statement_outcome, found_row_or_next, empty_tally, row_of_statement}
use Rattle.tc_disasm.specs.Printable.{ArePrintableFor}
use Rattle.tc_disasm.specs.RowsApart.{are_wants_refused_by, row_name_and_wants, RowNameAndWants, are_rows_distinguishable, are_all_rows_distinguishable}
use Rattle.tc_disasm.proofs.Decimals.{some_is}
use Rattle.tc_disasm.proofs.Found.{refused-judged, goes_on}
use Rattle.tc_disasm.proofs.Tables.{rows_apart}

-- the row at a place, if the search continues after all earlier rows
walks : (name : List ℕ) (os : List OperandData) (r : RowData) (f : RowFieldsData) → ((t : Tally) → row_outcome name os r t ≡ Ok f)
    → (rows : List RowData) (place k : ℕ) (t : Tally) → slice_get rows k ≡ Some r
    → ((j : ℕ) (s : RowData) → j < k → slice_get rows j ≡ Some s → (t : Tally) → (u : Tally) × (row_outcome name os s t ≡ Err u))
    → statement_outcome name os rows place t ≡ Ok (place + k, f)
unfolding statement_outcome
walks name os r f is [] place k t e before = cc
walks name os r f is (x ∷ xs) place zero t e before =
    ap (λ q. found_row_or_next q place (statement_outcome name os xs (place + 1))) (ap (λ y. row_outcome name os y t) (some_is x r e) ∙ is t)
    ∙ ap (λ n. Ok (n, f)) (sym (add-zero place))
walks name os r f is (x ∷ xs) place (suc k) t e before =
    let next = before 0 x (omega arith) refl t in
    ap (λ q. found_row_or_next q place (statement_outcome name os xs (place + 1))) next.1
    ∙ walks name os r f is xs (place + 1) k next.0 e (λ j s h at. before (suc j) s (omega arith) at)
    ∙ ap (λ n. Ok (n, f)) (omega arith)

list_all_at : (p : RowNameAndWants → Bool) (rows : List RowData) (k : ℕ) (r : RowData) → list_all p (map row_name_and_wants rows) ≡ true → slice_get rows k ≡ Some r → p (row_name_and_wants r) ≡ true
list_all_at p [] k r e at = cc
list_all_at p (x ∷ xs) zero r e at = ap (λ y. p (row_name_and_wants y)) (sym (some_is x r at)) ∙ (and_parts (p (row_name_and_wants x)) (list_all p (map row_name_and_wants xs)) e).0
list_all_at p (x ∷ xs) (suc k) r e at = list_all_at p xs k r (and_parts (p (row_name_and_wants x)) (list_all p (map row_name_and_wants xs)) e).1 at

apart_at : (rows : List RowData) (j k : ℕ) (s r : RowData) → are_all_rows_distinguishable (map row_name_and_wants rows) ≡ true → j < k → slice_get rows j ≡ Some s → slice_get rows k ≡ Some r → are_rows_distinguishable (row_name_and_wants s) (row_name_and_wants r) ≡ true
apart_at [] j k s r e h a b = cc
apart_at (x ∷ xs) zero zero s r e h a b = absurd (omega arith)
apart_at (x ∷ xs) zero (suc k) s r e h a b =
    ap (λ y. are_rows_distinguishable (row_name_and_wants y) (row_name_and_wants r)) (sym (some_is x s a))
    ∙ list_all_at (are_rows_distinguishable (row_name_and_wants x)) xs k r (and_parts (list_all (are_rows_distinguishable (row_name_and_wants x)) (map row_name_and_wants xs)) (are_all_rows_distinguishable (map row_name_and_wants xs)) e).0 b
apart_at (x ∷ xs) (suc j) zero s r e h a b = absurd (omega arith)
apart_at (x ∷ xs) (suc j) (suc k) s r e h a b = apart_at xs j k s r (and_parts (list_all (are_rows_distinguishable (row_name_and_wants x)) (map row_name_and_wants xs)) (are_all_rows_distinguishable (map row_name_and_wants xs)) e).1 (omega arith) a b

-- the search continues after a row of another name
skips : (r s : RowData) (os : List OperandData) (t : Tally) → bytes_eq s.name r.name ≡ false → (u : Tally) × (row_outcome r.name os s t ≡ Err u)
unfolding row_outcome
skips r s os t other =
    (t, ap (λ b. cond b (option_map_or (λ f. cond (f.rule == 15) (Ok f) (Err (record { named = true; fits = true; least = min t.least f.rule }))) (fields_of_row s (wants_of s) os) (Err (record t { named = true }))) (Err t)) other)

-- an earlier row of the name refuses
earlier : (r s : RowData) (os : List OperandData) → are_rows_distinguishable (row_name_and_wants s) (row_name_and_wants r) ≡ true → ArePrintableFor (wants_of r) os → (t : Tally) → (u : Tally) × (row_outcome r.name os s t ≡ Err u)
earlier r s os e p t = by_name (bytes_eq s.name r.name) refl e
  where
    by_name : (b : Bool) → bytes_eq s.name r.name ≡ b → (not b || (are_wants_refused_by (wants_of s) (wants_of r) && are_wants_refused_by (wants_of r) (wants_of s))) ≡ true → (u : Tally) × (row_outcome r.name os s t ≡ Err u)
    by_name true same d = goes_on r.name os s t (refused-judged s (wants_of r) (wants_of s) os (and_parts (are_wants_refused_by (wants_of s) (wants_of r)) (are_wants_refused_by (wants_of r) (wants_of s)) d).1 p)
    by_name false other d = skips r s os t other

-- the row itself
itself : (r : RowData) (os : List OperandData) (f : RowFieldsData) → fields_of_row r (wants_of r) os ≡ Some f → f.rule ≡ 15 → (t : Tally) → row_outcome r.name os r t ≡ Ok f
unfolding row_outcome
itself r os f is whole t =
    let choose : Option RowFieldsData → Result RowFieldsData Tally = λ o. option_map_or (λ g. cond (g.rule == 15) (Ok g) (Err (record { named = true; fits = true; least = min t.least g.rule }))) o (Err (record t { named = true })) in
    ap (λ b. cond b (choose (fields_of_row r (wants_of r) os)) (Err t)) ((bytes_eq-Decides r.name r.name).1 refl)
    ∙ ap choose is
    ∙ ap (λ n. cond (n == 15) (Ok f) (Err (record { named = true; fits = true; least = min t.least f.rule }))) whole

-- a statement of a row's name, with operands as that row prints them, is that row
pub statement_is : (k : ℕ) (r : RowData) (os : List OperandData) (f : RowFieldsData) → slice_get table_rows k ≡ Some r → ArePrintableFor (wants_of r) os → fields_of_row r (wants_of r) os ≡ Some f → f.rule ≡ 15
    → row_of_statement r.name os ≡ Ok (k, f)
statement_is k r os f at p is whole =
    walks r.name os r f (itself r os f is whole) table_rows 0 k empty_tally at (λ j s h e. earlier r s os (apart_at table_rows j k s r rows_apart h e at) p)
    ∙ ap (λ n. Ok (n, f)) (omega arith)
