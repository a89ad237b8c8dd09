use Rattle.std.proofs.Common.{◌+◌, ◌≤◌, ◌^◌, List, length, sym, ap, ◌∙◌, subst, All}
use Rattle.tcd_base.specs.declared.range.Range.{Range}
use Rattle.tcd_plan.specs.PlanData.{IsPlan, plan_data}
use Rattle.value_cells.specs.declared.cells.Cell.{Cell}
use Rattle.tcd_plan.specs.Cutting.{ranges_outside}
use Rattle.value_cells.specs.Cells.{ram_without_cells}
use Rattle.value_cells.proofs.CellPlan.{ram_fits}
use Rattle.value_cells.proofs.ReadLaws.{room_then, room_else}
use Rattle.value_cells.proofs.cells.Cells.has_room_for_cell.Goals as goal

pub ranges_outside-requires-clause-fit : goal.ranges_outside-requires-clause-fit
ranges_outside-requires-clause-fit c =
    let ok = subst IsPlan c.plan.view_is c.plan.invariant in
    let ram = c.as_slice.ensures.value ∙ c.ram_without_cells-ram.ensures ∙ ap (λ (l : List Cell). ram_without_cells l (c.args.plan.now).ram) c.list.ensures in
    subst (λ (rs : List Range). All (λ (r : Range). r.at + r.len ≤ 2 ^ 32) rs) (sym ram) (ram_fits ok c.args.self.now c.requires.cells.each)

pub returns-then-len-le-MOST : goal.returns-then-len-le-MOST
returns-then-len-le-MOST c =
    let ram = c.as_slice.ensures.value ∙ c.ram_without_cells-ram.ensures ∙ ap (λ (l : List Cell). ram_without_cells l (c.args.plan.now).ram) c.list.ensures in
    let count = c.len.ensures.value ∙ ap (λ (l : List Range). length l) c.ranges_outside.ensures ∙ ap (λ (rs : List Range). length (ranges_outside (c.args.cell.now).at 4 rs)) ram in
    room_then c.args.plan.now (plan_data c.plan.inside) c.args.self.now c.args.cell.now c.len.result c.len-then-len-le-MOST.result c.len-then-len-le-MOST-2.result
    c.plan.view_is c.len-then-len-le-MOST.ensures.value (c.len-then-len-le-MOST-2.ensures.value ∙ ap (λ (l : List Cell). length l) c.self.view_is) count c.if-len-le-MOST.true

pub returns-else-len-le-MOST : goal.returns-else-len-le-MOST
returns-else-len-le-MOST c =
    let ram = c.as_slice.ensures.value ∙ c.ram_without_cells-ram.ensures ∙ ap (λ (l : List Cell). ram_without_cells l (c.args.plan.now).ram) c.list.ensures in
    let count = c.len.ensures.value ∙ ap (λ (l : List Range). length l) c.ranges_outside.ensures ∙ ap (λ (rs : List Range). length (ranges_outside (c.args.cell.now).at 4 rs)) ram in
    room_else c.args.plan.now c.args.self.now c.args.cell.now c.len.result count c.if-len-le-MOST.false
