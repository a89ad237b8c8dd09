use Rattle.store_ranges.proofs.Growth.{loads_grow}
use Rattle.store_ranges.proofs.laws.load_laws.Goals as goal

pub returns : goal.returns
returns c = loads_grow
