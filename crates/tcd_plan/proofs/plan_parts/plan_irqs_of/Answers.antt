use Rattle.std.proofs.Common.{◌≡◌, ◌<◌, ◌^◌, length, map, subst, sym, ap, ◌∙◌, arith}
use Rattle.std.proofs.lemmas.List.{length-map}
use Rattle.std.proofs.Math.ListN.{get_or-map}
use Rattle.serde_json.specs.Data.{Data}
use Rattle.serde_json.specs.View.{view}
use Rattle.tcd_plan.specs.PlanReader.{plan_irq_of}
use Rattle.tcd_plan.proofs.plan_parts.plan_irqs_of.Goals as goal

pub overflow_cast-unwrap_or : goal.overflow_cast-unwrap_or
overflow_cast-unwrap_or c =
    let item = c.place-item.result in
    let places = c.args.places.now in
    let i = c.loop-place.place-index in
    let within : i < length (map view places) = omega (arith, length-map places view) in
    let here : plan_irq_of (view item) < 2 ^ 8 = subst (λ (d : Data). plan_irq_of d < 2 ^ 8) (get_or-map view places i item ∙ ap view (sym c.place-item.is)) (c.requires.bytes i (view item) within) in
    let is : c.unwrap_or.result ≡ plan_irq_of (view item) = cc (c.unwrap_or.ensures, c.json_number_of.ensures) in
    omega (arith, is, here)
