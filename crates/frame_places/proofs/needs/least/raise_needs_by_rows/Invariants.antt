use Rattle.std.proofs.Common.{drop}
use Rattle.frame_places.specs.RowNeeds.{RaisesNeedsByRows}
use Rattle.frame_places.proofs.needs.least.raise_needs_by_rows.Given as goal

abbrev pub invariant-loop-i : goal.invariant-loop-i
invariant-loop-i l = RaisesNeedsByRows l.cap l.initial.needs l.needs (drop l.i l.rows) l.changed
