use Rattle.std.proofs.Common.{ap, ◌∙◌}
use Rattle.task_chains.proofs.MissLaws.{multiple_from, span_both}
use Rattle.task_chains.proofs.rule_17.has_access_between.Goals as goal

pub returns-in-Span : goal.returns-in-Span
returns-in-Span c =
    rw c.in-Span.is
    (span_both c.in-Span.lo c.in-Span.last c.in-Span.step c.args.low c.args.high (rw c.in-Span.is at c.requires).0 c.align_up.result c.from-in-Span.result
    (c.align_up.ensures ∙ ap (λ m. multiple_from m c.in-Span.step) (c.from.ensures ∙ c.max.ensures)) (c.from-in-Span.ensures ∙ c.min.ensures))
