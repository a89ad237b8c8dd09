use Rattle.value_domain.proofs.RangeLaws.{below_span}
use Rattle.small_states.proofs.small_value.is_below_range.Goals as goal

pub returns : goal.returns
returns c =
    let both = below_span c.args.v.now c.args.lo c.args.last c.args.step c.requires.value c.requires.step c.extent_of-e.ensures in
    ((λ t. let i = c.is_extent_in_span.ensures.0 t in both.0 i.0 i.1 i.2), (λ below. c.is_extent_in_span.ensures.1 (both.1 below)))
