-- The row of a statement, or the least rule that the statement breaks.
use Rattle.std.specs.Prelude.{◌≡◌, ℕ, ◌+◌, ◌==◌, min, true, false, if◌then◌else◌, List, [], ◌∷◌, Result, Ok, Err}
use Rattle.std.specs.Option.{option_map_or}
use Rattle.std.specs.Str.{bytes_eq}
use Rattle.tc_stmt.specs.SourceRules.{no_rule, wrong_operands, unknown_statement}
use Rattle.tc_isa.specs.Rows.{RowData, table_rows}
use Rattle.tc_stmt.specs.declared.tally.Tally.{Tally}
use Rattle.tc_stmt.specs.declared.row_fields.RowFields.{RowFields}
use Rattle.tc_stmt.specs.Wants.{wants_of}
use Rattle.tc_lex.specs.Operands.{OperandData}
use Rattle.tc_stmt.specs.RowFields.{RowFieldsData, row_fields_of}
use Rattle.tc_stmt.specs.Filling.{fields_of_row}

-- the tally before the first row: none had the name, none had the forms, no rule was broken
abbrev pub empty_tally : Tally
empty_tally = record { named = false; fits = false; least = no_rule }

-- the outcome of one row for a statement: the row's fields if the statement fits, else the tally of
-- the rows tried
unfoldable pub row_outcome : List ℕ → List OperandData → RowData → Tally → Result RowFieldsData Tally
row_outcome name os r t =
    if bytes_eq r.name name
    then option_map_or (λ f. if f.rule == no_rule then Ok f else Err (record { named = true; fits = true; least = min t.least f.rule })) (fields_of_row r (wants_of r) os) (Err (record t { named = true }))
    else Err t

-- the least rule that a statement breaks that fits none of the rows tried
abbrev pub rule_broken_by_statement : Tally → ℕ
rule_broken_by_statement t = if t.named then (if t.fits then t.least else wrong_operands) else unknown_statement

-- the row of this number if the statement fits it, else the outcome of the next rows
abbrev pub found_row_or_next : Result RowFieldsData Tally → ℕ → (Tally → Result (ℕ × RowFieldsData) ℕ) → Result (ℕ × RowFieldsData) ℕ
found_row_or_next (Ok f) place next = Ok (place, f)
found_row_or_next (Err t) place next = next t

-- the first of these rows, numbered from this place on, that the statement fits, or the least rule
-- that it breaks
unfoldable pub statement_outcome : List ℕ → List OperandData → List RowData → ℕ → Tally → Result (ℕ × RowFieldsData) ℕ
statement_outcome name os [] place t = Err (rule_broken_by_statement t)
statement_outcome name os (r ∷ rs) place t = found_row_or_next (row_outcome name os r t) place (statement_outcome name os rs (place + 1))

-- the number of the first of these rows that the statement fits, with the fields, or the least rule
-- that the statement breaks
abbrev pub first_fitting_row : List ℕ → List OperandData → List RowData → Result (ℕ × RowFieldsData) ℕ
first_fitting_row name os rows = statement_outcome name os rows 0 empty_tally

-- the first row of this name that fits the operands and breaks no rule, or the least rule broken
abbrev pub row_of_statement : List ℕ → List OperandData → Result (ℕ × RowFieldsData) ℕ
row_of_statement name os = first_fitting_row name os table_rows

-- the code's answer for a row is this: the fields in the record, or the tally after the row
abbrev pub GivesRowOutcome : {U : Type 0} → Result U Tally → RowFields → Result RowFieldsData Tally → Type 0
GivesRowOutcome (Ok u) f r = r ≡ Ok (row_fields_of f)
GivesRowOutcome (Err t) f r = r ≡ Err t

-- the code's result for a statement: the number of its row and the fields, or the broken rule
abbrev pub GivesStatementOutcome : Result (ℕ × RowFields) ℕ → Result (ℕ × RowFieldsData) ℕ → Type 0
GivesStatementOutcome (Ok p) r = r ≡ Ok (p.0, row_fields_of p.1)
GivesStatementOutcome (Err e) r = r ≡ Err e
