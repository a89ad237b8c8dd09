use Rattle.std.proofs.Common.{[], ◌∙◌, ap, refl}
use Rattle.std.specs.Prelude.{codes}
use Rattle.tcd_report.specs.Graphs.KnownHandlers.{irq_handler_entries}
use Rattle.tcd_report.specs.Graphs.{unique_addresses, lines_to}
use Rattle.tcd_report.proofs.GraphLemmas.HandlerLaws.{known_by}
use Rattle.tcd_report.proofs.graphs.handlers.find_handlers.Goals as goal

pub returns-clause-entries : goal.returns-clause-entries
returns-clause-entries c =
    c.in_ok-set_unique_addresses.ensures ∙ ap unique_addresses (c.deref.ensures.value ∙ c.in_ok-set_handler_entries.ensures ∙ ap (irq_handler_entries c.args.plan.now) (c.as_slice.ensures.value ∙ c.possible_irqs-irqs.ensures))

pub returns-clause-known : goal.returns-clause-known
returns-clause-known c =
    let plan = c.args.plan.now in
    known_by plan _ c.args.s.now refl refl
    (c.in_ok-set_unique_addresses.ensures ∙ ap unique_addresses (c.deref.ensures.value ∙ c.in_ok-set_handler_entries.ensures ∙ ap (irq_handler_entries plan) (c.as_slice.ensures.value ∙ c.possible_irqs-irqs.ensures)))
    (record { front = []; sized = refl; are = c.in_ok-make_handler_lines.ensures ∙ ap (lines_to [] (codes "irq ")) c.deref-2.ensures.value })
