use Rattle.std.proofs.Common.{◌∙◌, ap}
use Rattle.tcd_plan.specs.PlanData.{PlanData}
use Rattle.store_ranges.proofs.RomLaws.{tests_one}
use Rattle.value_cells.proofs.plans.is_cell_in_ram.Goals as goal

pub returns : goal.returns
returns c = tests_one c.is_in_one_range.result c.args.at 4 c.as_slice.result.now (c.args.plan.now).ram (c.as_slice.ensures.value ∙ ap (λ (p : PlanData). p.ram) c.plan.view_is) c.is_in_one_range.ensures
