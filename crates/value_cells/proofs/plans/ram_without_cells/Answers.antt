use Rattle.std.proofs.Common.{◌+◌, ◌≤◌, ◌^◌, List, length, take, sym, ap, ◌∙◌, subst, arith, slice_index_or, All}
use Rattle.tcd_base.specs.declared.range.Range.{Range}
use Rattle.tcd_plan.specs.PlanData.{IsPlan}
use Rattle.tcd_plan.specs.Cutting.{ranges_outside}
use Rattle.value_cells.proofs.CellPlan.{ram_more, take_cells, ram_fits}
use Rattle.value_cells.proofs.plans.ram_without_cells.Goals as goal

pub ranges_without_cell-ram-requires-clause-room : goal.ranges_without_cell-ram-requires-clause-room
ranges_without_cell-ram-requires-clause-room c =
    let cells = c.args.cells.now in
    let i = c.loop-cell.cell-index in
    let lt = c.loop-cell-test.true in
    let e = c.as_slice-in-loop-cell.ensures.value ∙ c.loop-cell.invariant in
    let same = ap (λ (rs : List Range). ranges_outside (slice_index_or cells i (record { at = 0; lo = 0; hi = 0 })).at 4 rs) e ∙ ram_more cells c.args.plan.now.ram i (record { at = 0; lo = 0; hi = 0 }) lt in
    subst (λ (rs : List Range). length rs ≤ 16) (sym same) (c.requires.few_ram (i + 1) (omega arith))

pub ranges_without_cell-ram-requires-clause-fit : goal.ranges_without_cell-ram-requires-clause-fit
ranges_without_cell-ram-requires-clause-fit c =
    let ok = subst IsPlan c.plan.view_is c.plan.invariant in
    let i = c.loop-cell.cell-index in
    let e = c.as_slice-in-loop-cell.ensures.value ∙ c.loop-cell.invariant in
    subst (λ (rs : List Range). All (λ (r : Range). r.at + r.len ≤ 2 ^ 32) rs) (sym e) (ram_fits ok (take i c.args.cells.now) (take_cells c.args.plan.now c.args.cells.now i c.requires.each))

pub loop-cell-preserved : goal.loop-cell-preserved
loop-cell-preserved c =
    let cells = c.args.cells.now in
    let i = c.loop-cell.cell-index in
    let lt = c.loop-cell-test.true in
    let e = c.as_slice-in-loop-cell.ensures.value ∙ c.loop-cell.invariant in
    c.ranges_without_cell-ram.ensures ∙ ap (λ (rs : List Range). ranges_outside (slice_index_or cells i (record { at = 0; lo = 0; hi = 0 })).at 4 rs) e ∙ ram_more cells c.args.plan.now.ram i (record { at = 0; lo = 0; hi = 0 }) lt
