use Rattle.std.specs.List.{filter}
use Rattle.value_domain.specs.Values.{members, is_in_span}
use Rattle.value_domain.proofs.MeetLaws.{join_both}
use Rattle.vd_transfer.proofs.Meets.{none_after}
use Rattle.vd_transfer.proofs.refinement.join_meet_with_interval.Goals as goal

pub returns-then-not-write_meet_with_span-clause-more : goal.returns-then-not-write_meet_with_span-clause-more
returns-then-not-write_meet_with_span-clause-more c = λ xs e.
    none_after c.args.b.now xs (filter (is_in_span c.args.i.lo c.args.i.last 0) (members c.args.v.now)) _ e (rw c.if-not-write_meet_with_span.true at c.write_meet_with_span.ensures.meet)

pub returns-clause-more : goal.returns-clause-more
returns-clause-more c = λ xs e.
    rw c.join_into.ensures.cover
    (join_both c.args.b.now c.args.out.now c.write_meet_with_span.new.out xs (filter (is_in_span c.args.i.lo c.args.i.last 0) (members c.args.v.now)) e
    (rw c.if-not-write_meet_with_span.false at c.write_meet_with_span.ensures.meet))
