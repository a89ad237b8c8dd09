use Rattle.std.proofs.Common.{◌∙◌, sym}
use Rattle.value_domain.proofs.MeetLaws.{none_range, some_range}
use Rattle.value_domain.proofs.meets.write_meet_of_spans.Goals as goal

pub returns-then-span_len-eq0-clause-meet : goal.returns-then-span_len-eq0-clause-meet
returns-then-span_len-eq0-clause-meet c = none_range c.args.b.now c.args.lo c.args.last c.args.step (sym c.span_len.ensures ∙ c.if-span_len-eq0.true)

pub returns-clause-meet : goal.returns-clause-meet
returns-clause-meet c = rw c.write_cover.ensures.cover (some_range c.args.b.now c.args.lo c.args.last c.args.step (λ e. c.if-span_len-eq0.false (c.span_len.ensures ∙ e)))
