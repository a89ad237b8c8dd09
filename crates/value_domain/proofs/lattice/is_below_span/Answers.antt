use Rattle.std.proofs.Common.{refl}
use Rattle.value_domain.proofs.RangeLaws.{below_any, below_span}
use Rattle.value_domain.proofs.lattice.is_below_span.Goals as goal

pub returns-then-is_span_of_all_words : goal.returns-then-is_span_of_all_words
returns-then-is_span_of_all_words c =
    let all = c.is_span_of_all_words.ensures.0 c.if-is_span_of_all_words.true in
    rw (all.0, all.1, all.2) ((λ t. below_any c.args.v.now c.requires.left), (λ below. refl))

pub returns : goal.returns
returns c =
    let both = below_span c.args.v.now c.args.lo c.args.last c.args.step c.requires.left c.requires.step c.extent_of-e.ensures in
    ((λ t. let i = c.is_extent_in_span.ensures.0 t in both.0 i.0 i.1 i.2), (λ below. c.is_extent_in_span.ensures.1 (both.1 below)))
