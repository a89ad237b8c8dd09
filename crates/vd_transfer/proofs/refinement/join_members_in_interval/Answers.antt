use Rattle.std.proofs.Common.{◌∙◌}
use Rattle.std.specs.List.{filter}
use Rattle.value_domain.specs.Values.{members, is_in_span}
use Rattle.vd_transfer.proofs.Meets.{past_empty, none_before}
use Rattle.vd_transfer.proofs.refinement.join_members_in_interval.Goals as goal

pub returns-then-i-clause-more : goal.returns-then-i-clause-more
returns-then-i-clause-more c = λ xs e. e ∙ past_empty c.args.b.now c.args.i xs (members c.args.v.now) c.if-i.true

pub returns-then-found-clause-more : goal.returns-then-found-clause-more
returns-then-found-clause-more c = λ xs e. c.join_meet_with_interval.ensures.more xs (rw c.if-found.true at e)

pub returns-else-found-clause-more : goal.returns-else-found-clause-more
returns-else-found-clause-more c = λ xs e.
    none_before c.args.b.now xs (filter (is_in_span c.args.i.lo c.args.i.last 0) (members c.args.v.now)) _ (rw c.if-found.false at e) c.write_meet_with_span.ensures.meet

pub join_meet_with_interval-requires-clause-before : goal.join_meet_with_interval-requires-clause-before
join_meet_with_interval-requires-clause-before c = rw c.if-found.true at c.requires.before
