use Rattle.std.proofs.Common.{rules, sym, refl}
use Rattle.value_cells.specs.Keeping.{InstructionKeepsCellBounds}
use Rattle.value_cells.proofs.KeepingLaws.{at_store}
use Rattle.value_cells.proofs.FaultLaws.{keeps_found}
use Rattle.value_cells.proofs.rule_16.keeps_rule_16.Goals as goal

pub returns-in-Store : goal.returns-in-Store
returns-in-Store c =
    let r = c.args.rule.now in
    let i = c.in-Store in
    keeps_found r.bounds.now r.image.now r.plan.now r.cells.now (record { addr = c.args.addr; state = c.args.s.now }) _ _ c.keeps_all_cell_bounds.result c.in-Some.ensures.code
    (at_store r.bounds.now r.plan.now r.cells.now c.args.s.now c.in-Some.found.shape i.src i.base i.offset i.size i.after c.address_by_shape-at.result c.reg.result c.keeps_all_cell_bounds.result (sym i.is) c.address_by_shape-at.ensures.address c.reg.ensures c.keeps_all_cell_bounds.ensures)

pub returns-in_default-shape : goal.returns-in_default-shape
returns-in_default-shape c =
    let r = c.args.rule.now in
    let other : InstructionKeepsCellBounds r.bounds.now r.plan.now r.cells.now c.args.s.now c.in-Some.found.shape = search rules in
    keeps_found r.bounds.now r.image.now r.plan.now r.cells.now (record { addr = c.args.addr; state = c.args.s.now }) _ _ _ c.in-Some.ensures.code (λ t. other, λ keeps. refl)
