use Rattle.std.proofs.Common.{◌≤◌, ◌++◌, length, map, ap, sym, ◌∙◌, subst}
use Rattle.std.proofs.lemmas.Bool.{leb-true, le-leb}
use Rattle.task_chains.specs.Tasks.{TasksData}
use Rattle.tcd_plan.specs.Cutting.{ranges_outside}
use Rattle.task_chains.specs.Devices.{any_word_device}
use Rattle.task_chains.proofs.task_lists.Tasks.has_room_for_views.Goals as goal

pub returns : goal.returns
returns c =
    let plan = c.args.plan.now in
    let at = ap (λ (t : TasksData). t.block) c.self.view_is in
    let is =
    c.count_view_devices.ensures ∙ ap (λ x. length (plan.devices ++ map any_word_device (ranges_outside x c.block_size.result plan.ram))) at
    ∙ ap (λ k. length (plan.devices ++ map any_word_device (ranges_outside c.args.self.now.block k plan.ram))) c.block_size.ensures in
    (λ t. subst (λ k. k ≤ 16) is (leb-true c.count_view_devices.result 16 t), λ h. le-leb c.count_view_devices.result 16 (subst (λ k. k ≤ 16) (sym is) h))
