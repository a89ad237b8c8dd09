use Rattle.value_domain.specs.declared.values.Val.TheVariants.{Span}
use Rattle.value_domain.proofs.RangeLaws.{join_value}
use Rattle.value_domain.proofs.lattice.join_into.Goals as goal

pub returns-in-Span-clause-value : goal.returns-in-Span-clause-value
returns-in-Span-clause-value c =
    rw c.join_span.ensures
    (join_value c.args.b.now c.args.v.now (Span c.in-Span.lo c.in-Span.last c.in-Span.step) c.most_words-most_words.ensures.limits c.requires.left (rw c.in-Span.is at c.requires.right))

pub returns-in-Set-clause-value : goal.returns-in-Set-clause-value
returns-in-Set-clause-value c =
    rw c.join_set.ensures
    (join_value c.args.b.now c.args.v.now _ c.most_words-most_words.ensures.limits c.requires.left (rw c.in-Set.is at c.requires.right))
