use Rattle.std.proofs.Common.{◌≡◌, List, length, sym, ap, subst, ◌∙◌}
use Rattle.std.specs.Borrow.{Bor}
use Rattle.tcd_plan.specs.declared.plans.Device.{Device}
use Rattle.tcd_plan.specs.PlanData.{PlanData, IsPlan}
use Rattle.tc_script.specs.ScriptData.{ScriptData}
use Rattle.tc_script.specs.Ports.{device_answer_at}
use Rattle.tc_script.proofs.Bounded.{bounded_by}
use Rattle.tc_script.proofs.Only.{script_run}
use Rattle.tc_script.proofs.script_runs.drive_by_script.Goals as goal

pub new-ports-requires-clause-askable : goal.new-ports-requires-clause-askable
new-ports-requires-clause-askable c = λ k d lt addr t has early.
    c.requires.devices ∙ ap length (sym (c.as_slice-devices.ensures.value ∙ ap (λ (p : PlanData). p.devices) c.plan.view_is))

pub new-ports-requires-clause-bounded : goal.new-ports-requires-clause-bounded
new-ports-requires-clause-bounded c =
    let bounds = c.args.script.now.bounds in
    let same : c.as_slice-devices.result.now ≡ c.args.plan.now.devices = c.as_slice-devices.ensures.value ∙ ap (λ (p : PlanData). p.devices) c.plan.view_is in
    bounded_by c.args.plan.now bounds (λ x t w. w ≡ device_answer_at c.as_slice-devices.result.now bounds x t) (subst IsPlan c.plan.view_is c.plan.invariant) c.requires.bounds
    (λ x t w is. is ∙ ap (λ (ds : List Device). device_answer_at ds bounds x t) same)

pub returns : goal.returns
returns c =
    let bounds = c.args.script.now.bounds in
    let same : c.as_slice-devices.result.now ≡ c.args.plan.now.devices = c.as_slice-devices.ensures.value ∙ ap (λ (p : PlanData). p.devices) c.plan.view_is in
    script_run c.args.script.now c.drive.ensures
    (λ x t w is.
    is ∙ ap (λ (f : Bor (List Device) × Bor ScriptData). device_answer_at f.0.now f.1.now.bounds x t) c.new-ports.ensures.answer
    ∙ ap (λ (ds : List Device). device_answer_at ds bounds x t) same)
