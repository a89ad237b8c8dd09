use Rattle.depth_maker.specs.Rows.{HasRowsOfFirst}
use Rattle.depth_maker.proofs.rows.need_rows.Given as goal

abbrev pub invariant-loop-entry : goal.invariant-loop-entry
invariant-loop-entry l = HasRowsOfFirst l.source l.entry l.draft
