use Rattle.std.proofs.Common.{ap, ◌∙◌}
use Rattle.value_domain.specs.Values.{cover, members}
use Rattle.store_ranges.specs.Loads.{answers_to_load}
use Rattle.store_ranges.proofs.LoadLaws.{device-ends}
use Rattle.store_ranges.proofs.loads.write_loads_from_span.Goals as goal

pub returns-clause-loaded : goal.returns-clause-loaded
returns-clause-loaded c =
    c.write_peripheral_answers.ensures.cover
    ∙ ap (λ d. cover c.args.b.now (answers_to_load c.args.load.size c.args.load.signed d)) (c.device_of_load-device.ensures.device ∙ device-ends c.args.plan.now c.args.load.size (members c.args.at.now) c.extent_of-e.ensures)
