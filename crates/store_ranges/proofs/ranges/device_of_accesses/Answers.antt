use Rattle.std.proofs.Common.{◌∙◌, ◌&&◌, rules, tests}
use Rattle.std.proofs.lemmas.Iterator.{YieldsList-from_slice}
use Rattle.std.proofs.lemmas.Iterator.Search.{find_from_yields_List}
use Rattle.tcd_plan.specs.declared.plans.Device.{Device}
use Rattle.tcd_base.specs.Ranges.{is_within_range}
use Rattle.store_ranges.proofs.ranges.device_of_accesses.Goals as goal

pub returns : goal.returns
returns c =
    let test = λ (d : Device). is_within_range c.args.low c.args.n d.range && is_within_range c.args.high c.args.n d.range in
    c.copied.ensures
    ∙ find_from_yields_List test _ _ c.find.result c.find.ensures.ran (YieldsList-from_slice c.args.devices.now cc) (λ x b q k. search (rules, tests))
