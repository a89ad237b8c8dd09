use Rattle.std.proofs.Common.{◌≡◌, false, true, sym, ◌∙◌, arith}
use Rattle.value_cells.proofs.KeepingLaws.{kept_here, kept_more, kept_all}
use Rattle.value_cells.proofs.keeping.keeps_cell_bounds.Goals as goal

pub returns-then-not-is_store_allowed_at : goal.returns-then-not-is_store_allowed_at
returns-then-not-is_store_allowed_at c = (
  λ t. absurd (let f : false ≡ true = t in cc),
  λ keeps.
      let i = c.loop-x.invariant in
      let t = c.is_store_allowed_at.ensures.1 (kept_here c.args.at.now c.args.stored.now c.args.size c.args.cell.now c.requires.size c.fits_cell-fits.result c.fits_cell-fits.ensures c.loop-x.x i.0 i.1 keeps) in
      (let f : false ≡ true = sym c.if-not-is_store_allowed_at.true ∙ t in f),
)

pub loop-x-preserved : goal.loop-x-preserved
loop-x-preserved c =
    let i = c.loop-x.invariant in
    let lt = c.loop-x-test.true in
    let low = i.0 in
    (omega arith, omega arith, kept_more c.args.at.now c.args.stored.now c.args.size c.args.cell.now c.requires.size c.fits_cell-fits.result c.fits_cell-fits.ensures c.loop-x.x i.2 (c.is_store_allowed_at.ensures.0 c.if-not-is_store_allowed_at.false))

pub returns : goal.returns
returns c =
    let i = c.loop-x.invariant in
    let lt = c.loop-x-test.false in (
      λ t. kept_all c.args.at.now c.args.stored.now c.args.size c.args.cell.now c.requires.size c.fits_cell-fits.result c.fits_cell-fits.ensures c.loop-x.x (omega arith) i.2 (c.is_store_allowed_at-2.ensures.0 t),
      λ keeps. c.is_store_allowed_at-2.ensures.1 (kept_here c.args.at.now c.args.stored.now c.args.size c.args.cell.now c.requires.size c.fits_cell-fits.result c.fits_cell-fits.ensures c.loop-x.x i.0 i.1 keeps),
    )
