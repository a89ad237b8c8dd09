use Rattle.std.proofs.Common.{take}
use Rattle.frame_places.proofs.RowLemmas.{AsksSoFar}
use Rattle.frame_places.proofs.needs.row.need_by_row.Given as goal

abbrev pub invariant-loop-t : goal.invariant-loop-t
invariant-loop-t l = AsksSoFar l.needs l.row l.cap (take l.t-index l.row.into.items) l.need
