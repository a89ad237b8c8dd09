use Rattle.std.proofs.Common.{◌≡◌, map, take}
use Rattle.serde_json.specs.View.{view}
use Rattle.tcd_plan.specs.PlanReader.{plan_irq_of}
use Rattle.tcd_plan.proofs.plan_parts.plan_irqs_of.Given as goal

abbrev pub invariant-loop-place : goal.invariant-loop-place
invariant-loop-place l = l.irqs.items ≡ map plan_irq_of (map view (take l.place-index l.places))
