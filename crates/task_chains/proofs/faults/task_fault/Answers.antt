use Rattle.std.proofs.Common.{◌∙◌, refl, ap, sym, subst, arith}
use Rattle.std.specs.Prelude.{All}
use Rattle.tcd_plan.specs.PlanData.{PlanData}
use Rattle.value_domain.specs.Limits.{Limits}
use Rattle.value_domain.specs.State.{AreInLattice}
use Rattle.value_domain.specs.VersionLimits.{limits_for}
use Rattle.depth_cert.specs.declared.points.Point.{Point}
use Rattle.depth_cert.specs.Nodes.{NodeData}
use Rattle.task_chains.specs.Rule17.{KeepsRule17AtCertPoint, IsRule17Fault, KeepsRule17AtPoint, IsRule17NodeFault}
use Rattle.cfg_recover.proofs.FirstFault.{all_more, accepted_values}
use Rattle.task_chains.proofs.FaultLaws.{all_apart, first_fails}
use Rattle.packed_cert.proofs.WalkedPoints.{never_none, got}
use Rattle.task_chains.proofs.faults.task_fault.Goals as goal

pub unreachable-requires : goal.unreachable-requires
unreachable-requires c = never_none (c.args.cert.now).nodes c.loop-i.i (omega (arith, c.loop-i-test.true, c.len-i-end.ensures)) c.in_default.ensures

pub first_fault_in_node-requires : goal.first_fault_in_node-requires
first_fault_in_node-requires c =
    let plan : PlanData = c.args.plan.now in
    let limits = c.of-bounds.ensures ∙ ap (limits_for plan) c.version.ensures.version in
    let member = (got (c.args.cert.now).nodes c.loop-i.i c.in-Some.node c.in-Some.ensures).2 in
    subst (λ (b : Limits). All (λ (p : Point). AreInLattice b (p.state).regs) (c.in-Some.node).points) (sym limits) (accepted_values c.args.view.now plan c.args.cert.now c.in-Some.node c.requires member)

pub returns-in-Some-first_fault_in_node-clause-some : goal.returns-in-Some-first_fault_in_node-clause-some
returns-in-Some-first_fault_in_node-clause-some c =
    let view = c.args.view.now in
    let plan : PlanData = c.args.plan.now in
    let tasks = c.args.tasks.now in
    let cert = c.args.cert.now in
    let node : NodeData = c.in-Some.node in
    let addr = c.in-Some-first_fault_in_node.addr in
    let limits = c.of-bounds.ensures ∙ ap (limits_for plan) c.version.ensures.version in
    let found = subst (λ (b : Limits). IsRule17NodeFault b view plan tasks node addr) limits c.in-Some-first_fault_in_node.ensures.some in
    let here = got cert.nodes c.loop-i.i node c.in-Some.ensures in
    let first = first_fails view plan tasks cert c.version.ensures.limits cert.nodes refl c.loop-i.i node addr here.0 here.1 c.loop-i.invariant found in
    subst (λ (n : NodeData). IsRule17Fault view plan tasks cert n.key addr) (sym c.node.view_is) first

pub loop-i-preserved : goal.loop-i-preserved
loop-i-preserved c =
    let view = c.args.view.now in
    let plan : PlanData = c.args.plan.now in
    let tasks = c.args.tasks.now in
    let cert = c.args.cert.now in
    let node : NodeData = c.in-Some.node in
    let limits = c.of-bounds.ensures ∙ ap (limits_for plan) c.version.ensures.version in
    let found = subst (λ (b : Limits). All (KeepsRule17AtPoint b view plan tasks node.key) node.points) limits c.in_default-first_fault_in_node.ensures.none in
    let here = got cert.nodes c.loop-i.i node c.in-Some.ensures in
    all_more (λ (n : NodeData). All (λ p. KeepsRule17AtCertPoint view plan tasks cert n p) n.points) cert.nodes c.loop-i.i node here.0 here.1 c.loop-i.invariant found

pub returns-clause-none : goal.returns-clause-none
returns-clause-none c =
    all_apart c.args.view.now c.args.plan.now c.args.tasks.now c.args.cert.now c.version.ensures.limits (c.args.cert.now).nodes refl c.loop-i.i (omega (arith, c.loop-i-test.false, c.len-i-end.ensures)) c.loop-i.invariant
