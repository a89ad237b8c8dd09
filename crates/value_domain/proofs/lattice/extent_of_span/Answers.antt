use Rattle.value_domain.proofs.Loops.{extent_units}
use Rattle.value_domain.proofs.lattice.extent_of_span.Goals as goal

pub returns : goal.returns
returns c = extent_units c.args.lo c.args.last c.args.step c.from.result c.from-2.result c.from.ensures c.from-2.ensures c.requires
