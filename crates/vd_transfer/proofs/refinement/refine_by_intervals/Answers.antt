use Rattle.std.proofs.Common.{◌∙◌}
use Rattle.std.specs.List.{filter}
use Rattle.value_domain.specs.Values.{members, is_in_span}
use Rattle.value_domain.proofs.RangeLaws.{members_below}
use Rattle.vd_transfer.proofs.Meets.{kept_intervals}
use Rattle.vd_transfer.proofs.refinement.refine_by_intervals.Goals as goal

pub returns-clause-kept : goal.returns-clause-kept
returns-clause-kept c =
    let i = c.related_intervals.result.0 in
    let j = c.related_intervals.result.1 in
    let vs = members c.args.v.now in
    c.join_members_in_interval.ensures.more (filter (is_in_span c.related_intervals.result.0.lo c.related_intervals.result.0.last 0) vs) c.write_meet_with_span-found.ensures.meet
    ∙ kept_intervals c.args.b.now c.args.rel vs (members c.args.w.now) i j c.extent_of-e.result.least c.extent_of-e.result.greatest c.extent_of-e.result.step
    c.requires.order c.extent_of-e.ensures (members_below c.args.v.now c.requires.left.well) c.related_intervals.ensures
