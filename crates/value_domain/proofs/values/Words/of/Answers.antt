use Rattle.std.proofs.Common.{arith}
use Rattle.value_domain.proofs.WordLaws.{words_from}
use Rattle.value_domain.proofs.values.Words.of.Goals as goal

pub invariant_of-result : goal.invariant_of-result
invariant_of-result c =
    rw c.copied_elements-copy.ensures
    (words_from c.args.words.now (grind arith) (omega arith) (c.are_ascending.ensures.0 c.if-not-are_ascending.false) (λ k. (c.type_inv.words k).fits))
