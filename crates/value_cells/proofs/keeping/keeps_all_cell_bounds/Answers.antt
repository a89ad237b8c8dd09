use Rattle.std.proofs.Common.{◌≡◌, false, true, refl, sym, ◌∙◌, arith}
use Rattle.value_cells.proofs.KeepingLaws.{keeps_each, keeps_one, one_more}
use Rattle.value_cells.proofs.keeping.keeps_all_cell_bounds.Goals as goal

pub returns-then-not-keeps_cell_bounds : goal.returns-then-not-keeps_cell_bounds
returns-then-not-keeps_cell_bounds c = (
  λ t. absurd (let f : false ≡ true = t in cc),
  λ all.
      let t = c.keeps_cell_bounds.ensures.1 (keeps_one c.args.at.now c.args.stored.now c.args.size c.args.cells.now c.loop-cell.cell-index _ c.loop-cell-test.true all) in
      (let f : false ≡ true = sym c.if-not-keeps_cell_bounds.true ∙ t in f),
)

pub loop-cell-preserved : goal.loop-cell-preserved
loop-cell-preserved c = one_more c.args.at.now c.args.stored.now c.args.size c.args.cells.now c.loop-cell.cell-index _ c.loop-cell-test.true c.loop-cell.invariant (c.keeps_cell_bounds.ensures.0 c.if-not-keeps_cell_bounds.false)

pub returns : goal.returns
returns c = (λ t. keeps_each c.args.at.now c.args.stored.now c.args.size c.args.cells.now (λ i d lt. let end = c.loop-cell-test.false in c.loop-cell.invariant i d (omega arith)), λ all. refl)
