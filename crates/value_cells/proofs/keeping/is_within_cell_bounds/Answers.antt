use Rattle.value_cells.proofs.KeepingLaws.{within_then, within_else}
use Rattle.value_cells.proofs.keeping.is_within_cell_bounds.Goals as goal

pub returns-then-lo-words : goal.returns-then-lo-words
returns-then-lo-words c = within_then c.args.v.now c.args.lo c.args.hi c.extent_of-words.result.least c.extent_of-words.result.greatest c.extent_of-words.result.step c.requires c.extent_of-words.ensures c.if-lo-words.true

pub returns-else-lo-words : goal.returns-else-lo-words
returns-else-lo-words c = within_else c.args.v.now c.args.lo c.args.hi c.extent_of-words.result.least c.extent_of-words.result.greatest c.extent_of-words.result.step c.requires c.extent_of-words.ensures c.if-lo-words.false
