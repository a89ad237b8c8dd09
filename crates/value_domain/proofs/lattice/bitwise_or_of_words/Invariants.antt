use Rattle.std.proofs.Common.{◌≡◌, min, drop}
use Rattle.value_domain.specs.Sets.{step_of_set, alignment_log2}
use Rattle.value_domain.proofs.lattice.bitwise_or_of_words.Given as goal

abbrev pub invariant-loop-x : goal.invariant-loop-x
invariant-loop-x l = step_of_set l.words ≡ min (alignment_log2 l.bits) (step_of_set (drop l.x-index l.words))
