use Rattle.tcd_laws.proofs.CallDepth.{calls_are_within}
use Rattle.tcd_laws.proofs.laws.call_depth_law.Goals as goal

pub returns : goal.returns
returns c = calls_are_within
