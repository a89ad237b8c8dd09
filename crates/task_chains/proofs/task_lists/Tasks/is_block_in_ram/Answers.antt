use Rattle.std.proofs.Common.{ap, ◌∙◌}
use Rattle.std.specs.List.{list_any}
use Rattle.tcd_base.specs.Ranges.{is_within_range}
use Rattle.tcd_plan.specs.PlanData.{PlanData}
use Rattle.task_chains.specs.Tasks.{TasksData, block_size}
use Rattle.store_ranges.proofs.RomLaws.{tests_one}
use Rattle.task_chains.proofs.task_lists.Tasks.is_block_in_ram.Goals as goal

pub returns : goal.returns
returns c =
    let tasks = c.args.self.now in
    let rs = c.as_slice.result.now in
    let at = ap (λ (t : TasksData). t.block) c.self.view_is in
    let t = c.is_in_one_range.ensures ∙ ap (λ x. list_any (is_within_range x c.block_size.result) rs) at ∙ ap (λ k. list_any (is_within_range tasks.block k) rs) c.block_size.ensures in
    tests_one c.is_in_one_range.result tasks.block (block_size tasks) rs c.args.plan.now.ram (c.as_slice.ensures.value ∙ ap (λ (p : PlanData). p.ram) c.plan.view_is) t
