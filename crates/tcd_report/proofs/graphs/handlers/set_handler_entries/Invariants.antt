use Rattle.std.proofs.Common.{◌≡◌, take}
use Rattle.tcd_report.specs.Graphs.KnownHandlers.{irq_handler_entries}
use Rattle.tcd_report.proofs.graphs.handlers.set_handler_entries.Given as goal

abbrev pub invariant-loop-irq : goal.invariant-loop-irq
invariant-loop-irq l = l.all.items ≡ irq_handler_entries l.plan (take l.irq-index l.irqs)
