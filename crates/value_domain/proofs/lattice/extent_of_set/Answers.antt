use Rattle.value_domain.proofs.Loops.{extent_places}
use Rattle.value_domain.proofs.lattice.extent_of_set.Goals as goal

pub returns : goal.returns
returns c = extent_places c.args.words.now c.extent_step.result c.requires c.extent_step.ensures
