use Rattle.std.proofs.Common.{◌∙◌}
use Rattle.value_domain.proofs.MeetLaws.{meet_range}
use Rattle.value_domain.proofs.meets.write_meet_with_span.Goals as goal

pub returns-in-Span-clause-meet : goal.returns-in-Span-clause-meet
returns-in-Span-clause-meet c =
    let well = rw c.in-Span.is at c.requires.value.well in
    c.write_meet_of_spans.ensures.meet
    ∙ rw (c.in-Span.is, c.max.ensures, c.min.ensures, c.max-in-Span.ensures)
    (meet_range c.args.b.now c.args.lo c.args.last c.args.step c.in-Span.first c.in-Span.end c.in-Span.own c.requires.step well.0)
