use Rattle.std.proofs.Common.{◌≡◌, drop, map}
use Rattle.serde_json.specs.View.{view}
use Rattle.tcd_plan.specs.ValueForms.{are_irqs_above}
use Rattle.tcd_plan.proofs.object_forms.are_irqs.Given as goal

abbrev pub invariant-loop-place : goal.invariant-loop-place
invariant-loop-place l =
    are_irqs_above 0 (map view l.places) ≡ are_irqs_above l.low (map view (drop l.place-index l.places))
