use Rattle.std.proofs.Common.{take}
use Rattle.depth_maker.specs.SpelledCert.{AppendsTablePoints}
use Rattle.depth_maker.specs.SpotsAsPlaces.{spots_of_entries}
use Rattle.depth_maker.proofs.spelling.append_table_points.Given as goal

abbrev pub invariant-loop-p : goal.invariant-loop-p
invariant-loop-p l = AppendsTablePoints l.source l.key (take l.p-index (spots_of_entries l.source l.points)) l.initial.out.items l.out.items
