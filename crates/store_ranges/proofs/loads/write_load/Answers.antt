use Rattle.tcd_plan.specs.PlanData.{plan_data}
use Rattle.store_ranges.proofs.Sound.{set_sound, span_sound}
use Rattle.store_ranges.proofs.loads.write_load.Goals as goal

pub returns-in-Set-clause-sound : goal.returns-in-Set-clause-sound
returns-in-Set-clause-sound c =
    let loaded = rw c.as_slice.ensures.items at c.write_loads.ensures.loaded in
    rw (c.in-Set.is, loaded, ← c.plan.view_is) (set_sound c.args.b.now c.args.image.now (plan_data c.plan.inside) c.in-Set.words c.args.load.size c.args.load.signed c.plan.invariant)

pub returns-in-Span-clause-sound : goal.returns-in-Span-clause-sound
returns-in-Span-clause-sound c =
    rw (c.write_loads_from_span.ensures.loaded, ← c.plan.view_is) (span_sound c.args.b.now c.args.image.now (plan_data c.plan.inside) c.args.at.now c.args.load.size c.args.load.signed c.plan.invariant c.requires.at.well)
