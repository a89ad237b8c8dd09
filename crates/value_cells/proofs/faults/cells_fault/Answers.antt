use Rattle.std.proofs.Common.{◌+◌, ◌≤◌, ◌^◌, ◌∙◌, List, refl, ap, sym, subst, arith}
use Rattle.std.specs.Prelude.{All}
use Rattle.tcd_plan.specs.PlanData.{PlanData, IsPlan}
use Rattle.value_domain.specs.Limits.{Limits}
use Rattle.value_domain.specs.State.{AreInLattice}
use Rattle.value_domain.specs.VersionLimits.{limits_for}
use Rattle.depth_cert.specs.declared.points.Point.{Point}
use Rattle.depth_cert.specs.Nodes.{NodeData}
use Rattle.cfg_recover.specs.RulesHoldOrFail.{limits_of_cert, Accepts}
use Rattle.value_cells.specs.declared.cells.Cell.{Cell}
use Rattle.value_cells.specs.Cells.{with_cells}
use Rattle.value_cells.specs.Keeping.{CertKeepsCellBounds, IsFirstRule16Fault, IsFirstRule16NodeFault, PointKeepsCellBounds}
use Rattle.cfg_recover.proofs.FirstFault.{all_more, accepted_values}
use Rattle.value_cells.proofs.FaultLaws.{all_keep, first_breaks, cells_fit}
use Rattle.packed_cert.proofs.WalkedPoints.{never_none, got}
use Rattle.value_cells.proofs.faults.cells_fault.Goals as goal

pub unreachable-requires : goal.unreachable-requires
unreachable-requires c = never_none (c.args.cert.now).nodes c.loop-i.i (omega (arith, c.loop-i-test.true, c.len-i-end.ensures)) c.in_default.ensures

pub first_cell_fault_in_node-requires-clause-values : goal.first_cell_fault_in_node-requires-clause-values
first_cell_fault_in_node-requires-clause-values c =
    let other : PlanData = c.with_cells-other.result in
    let accepted = subst (λ (p : PlanData). Accepts c.args.image.now p c.args.cert.now) (sym c.with_cells-other.ensures) c.requires.accepted in
    let limits = c.of-bounds.ensures ∙ ap (limits_for other) c.version.ensures.version in
    let member = (got (c.args.cert.now).nodes c.loop-i.i c.in-Some.node c.in-Some.ensures).2 in
    subst (λ (b : Limits). All (λ (p : Point). AreInLattice b (p.state).regs) (c.in-Some.node).points) (sym limits) (accepted_values c.args.image.now other c.args.cert.now c.in-Some.node accepted member)

pub first_cell_fault_in_node-requires-clause-cells : goal.first_cell_fault_in_node-requires-clause-cells
first_cell_fault_in_node-requires-clause-cells c =
    subst (λ (l : List Cell). All (λ (d : Cell). d.at + 4 ≤ 2 ^ 32) l) (sym c.list.ensures) (cells_fit c.args.plan.now c.args.cells.now (subst IsPlan c.plan.view_is c.plan.invariant) c.requires.cells)

pub returns-in-Some-first_cell_fault_in_node-clause-some : goal.returns-in-Some-first_cell_fault_in_node-clause-some
returns-in-Some-first_cell_fault_in_node-clause-some c =
    let image = c.args.image.now in
    let cells : List Cell = c.args.cells.now in
    let other : PlanData = c.with_cells-other.result in
    let cert = c.args.cert.now in
    let node : NodeData = c.in-Some.node in
    let addr = c.in-Some-first_cell_fault_in_node.addr in
    let limits = c.of-bounds.ensures ∙ ap (limits_for other) c.version.ensures.version in
    let found = subst (λ (b : Limits). IsFirstRule16NodeFault b image other c.list.result.now node addr) limits c.in-Some-first_cell_fault_in_node.ensures.some in
    let breaks = subst (λ (l : List Cell). IsFirstRule16NodeFault (limits_of_cert other cert) image other l node addr) c.list.ensures found in
    let here = got cert.nodes c.loop-i.i node c.in-Some.ensures in
    let first = first_breaks image other cells cert c.version.ensures.limits cert.nodes refl c.loop-i.i node addr here.0 here.1 c.loop-i.invariant breaks in
    subst (λ (n : NodeData). IsFirstRule16Fault image (with_cells c.args.plan.now cells) cells cert n.key addr) (sym c.node.view_is) (subst (λ (p : PlanData). IsFirstRule16Fault image p cells cert node.key addr) c.with_cells-other.ensures first)

pub loop-i-preserved : goal.loop-i-preserved
loop-i-preserved c =
    let image = c.args.image.now in
    let other : PlanData = c.with_cells-other.result in
    let cert = c.args.cert.now in
    let node : NodeData = c.in-Some.node in
    let limits = c.of-bounds.ensures ∙ ap (limits_for other) c.version.ensures.version in
    let found = subst (λ (b : Limits). All (PointKeepsCellBounds b image other c.list.result.now) node.points) limits c.in_default-first_cell_fault_in_node.ensures.none in
    let keeps = subst (λ (l : List Cell). All (PointKeepsCellBounds (limits_of_cert other cert) image other l) node.points) c.list.ensures found in
    let here = got cert.nodes c.loop-i.i node c.in-Some.ensures in
    all_more (λ (n : NodeData). All (PointKeepsCellBounds (limits_of_cert other cert) image other c.args.cells.now) n.points) cert.nodes c.loop-i.i node here.0 here.1 c.loop-i.invariant keeps

pub returns-clause-none : goal.returns-clause-none
returns-clause-none c =
    let other : PlanData = c.with_cells-other.result in
    subst (λ (p : PlanData). CertKeepsCellBounds c.args.image.now p c.args.cells.now c.args.cert.now) c.with_cells-other.ensures
    (all_keep c.args.image.now other c.args.cells.now c.args.cert.now c.version.ensures.limits (c.args.cert.now).nodes refl c.loop-i.i (omega (arith, c.loop-i-test.false, c.len-i-end.ensures)) c.loop-i.invariant)
