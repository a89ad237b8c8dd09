-- Rows tried in turn.
use Rattle.std.proofs.Common.{◌≡◌, ◌<◌, ◌≤◌, ◌+◌, ℕ, List, [], length, get_or, drop, map, Result, Ok, Err, ap, subst, ◌∙◌}
use Rattle.std.proofs.lemmas.List.{drop_more, drop_all, length-map}
use Rattle.tc_isa.specs.declared.table.Row.{Row}
use Rattle.tc_isa.specs.declared.table.Form.TheVariants.{Rlc}
use Rattle.tc_isa.specs.Rows.{RowData, row, row_of}
use Rattle.tc_stmt.specs.declared.row_fields.RowFields.{RowFields}
use Rattle.tc_stmt.specs.declared.tally.Tally.{Tally}
use Rattle.tc_lex.specs.Operands.{OperandData}
use Rattle.tc_stmt.specs.RowFields.{row_fields_of}
use Rattle.tc_stmt.specs.StatementRow.{row_outcome, statement_outcome, found_row_or_next, rule_broken_by_statement, GivesRowOutcome}
use Rattle.tc_stmt.proofs.Places.{row_here}

abbrev pub any_row : RowData
any_row = row [] [] Rlc 0 0

module _ (name : List ℕ) (os : List OperandData) (rows : List Row) (i : ℕ) (t : Tally) where
  pub outcome-some : i < length rows → statement_outcome name os (drop i (map row_of rows)) i t ≡ found_row_or_next (row_outcome name os (get_or (map row_of rows) i any_row) t) i (statement_outcome name os (drop (i + 1) (map row_of rows)) (i + 1))
  unfolding statement_outcome
  outcome-some h = ap (λ (rs : List RowData). statement_outcome name os rs i t) (drop_more (map row_of rows) i any_row (rw (length-map rows row_of) h))

  pub outcome-end : length rows ≤ i → statement_outcome name os (drop i (map row_of rows)) i t ≡ Err (rule_broken_by_statement t)
  unfolding statement_outcome
  outcome-end h = ap (λ (rs : List RowData). statement_outcome name os rs i t) (drop_all i (map row_of rows) (rw (length-map rows row_of) h))

  pub outcome-ok : {U : Type 0} (d : Row) (r : Result U Tally) (u : U) (f : RowFields) → r ≡ Ok u → GivesRowOutcome r f (row_outcome name os (row_of (get_or rows i d)) t) → i < length rows
      → statement_outcome name os (drop i (map row_of rows)) i t ≡ Ok (i, row_fields_of f)
  outcome-ok {U} d r u f is steps h =
      let step : row_outcome name os (row_of (get_or rows i d)) t ≡ Ok (row_fields_of f) = subst (λ (q : Result U Tally). GivesRowOutcome q f (row_outcome name os (row_of (get_or rows i d)) t)) is steps in
      outcome-some h ∙ ap (λ q. found_row_or_next q i (statement_outcome name os (drop (i + 1) (map row_of rows)) (i + 1))) (ap (λ (x : RowData). row_outcome name os x t) (row_here rows i d any_row h) ∙ step)

  pub outcome-err : {U : Type 0} (d : Row) (r : Result U Tally) (u : Tally) (f : RowFields) → r ≡ Err u → GivesRowOutcome r f (row_outcome name os (row_of (get_or rows i d)) t) → i < length rows
      → statement_outcome name os (drop i (map row_of rows)) i t ≡ statement_outcome name os (drop (i + 1) (map row_of rows)) (i + 1) u
  outcome-err {U} d r u f is steps h =
      let step : row_outcome name os (row_of (get_or rows i d)) t ≡ Err u = subst (λ (q : Result U Tally). GivesRowOutcome q f (row_outcome name os (row_of (get_or rows i d)) t)) is steps in
      outcome-some h ∙ ap (λ q. found_row_or_next q i (statement_outcome name os (drop (i + 1) (map row_of rows)) (i + 1))) (ap (λ (x : RowData). row_outcome name os x t) (row_here rows i d any_row h) ∙ step)
