use Rattle.std.proofs.Common.{◌≡◌}
use Rattle.cfg_recover.proofs.FlowTargets.{evens_of}
use Rattle.cfg_recover.proofs.flow_targets.even_targets.Given as goal

abbrev pub invariant-loop-word : goal.invariant-loop-word
invariant-loop-word l = l.evened.items ≡ evens_of l.word-index l.words
