use Rattle.frame_places.proofs.RowLemmas.{rose_row}
use Rattle.frame_places.proofs.needs.least.raise_need_by_row.Goals as goal

pub returns-then-needs-row : goal.returns-then-needs-row
returns-then-needs-row c = record {
  pass =
      rose_row c.args.needs.now c.args.row.now c.args.cap c.need_by_row-need.result c.requires.node c.if-needs-row.true c.need_by_row-need.ensures.capped c.requires.capped c.need_by_row-need.ensures.least;
}
