use Rattle.std.proofs.Common.{All}
use Rattle.tc_script.specs.AreasInSequence.{CountsAreasInUse}
use Rattle.tc_script.specs.KnownWords.{IsCorrectCacheEntry}
use Rattle.tc_script.proofs.Runs.{DrivenSoFar}
use Rattle.tc_script.proofs.driving.drive.Given as goal

abbrev pub invariant-loop-t : goal.invariant-loop-t
invariant-loop-t g l = record { so_far : DrivenSoFar l.plan (goal.F-post g l.ports.answer) l.script.turns l.fn.m l.t l.m l.done; areas : CountsAreasInUse l.areas l.m; words : All IsCorrectCacheEntry l.words.words }
