use Rattle.std.proofs.Common.{◌≡◌, ◌∙◌, ◌++◌, ap, subst, sym}
use Rattle.std.specs.Prelude.{OnOk}
use Rattle.cfg_recover.proofs.NextLaws.{next_alone}
use Rattle.tcd_report.specs.Graphs.{jump_targets_of}
use Rattle.tcd_report.proofs.GraphLemmas.DutyLists.{jumps_are}
use Rattle.tcd_report.proofs.graphs.successors.push_successors.Goals as goal

pub returns-in-Jump : goal.returns-in-Jump
returns-in-Jump c =
    rw c.in-Jump.is
    (subst (λ l. OnOk c.push_jump_targets.result (c.push_jump_targets.new.all.items ≡ c.args.all.now.items ++ l)) (sym (jumps_are c.args.s.now _)) c.push_jump_targets.ensures)

pub returns-in_ok-push-in_default : goal.returns-in_ok-push-in_default
returns-in_ok-push-in_default c =
    let j = c.args.judged.now in
    let d = c.in_default in
    c.in_ok-push-in_default.ensures.items
    ∙ ap (λ l. c.args.all.now.items ++ l)
    (sym (ap jump_targets_of (next_alone j.bounds.now j.image.now j.plan.now c.args.addr c.args.s.now c.args.found.now.shape c.args.found.now.size
    d.not-Branch d.not-Jump d.not-Call d.not-Ret d.not-Rfe d.not-Syscall d.not-Mtcr)))
