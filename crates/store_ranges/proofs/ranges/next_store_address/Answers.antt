use Rattle.value_domain.proofs.RangeLaws.{unit_shift}
use Rattle.store_ranges.proofs.StoreLaws.{next_is}
use Rattle.store_ranges.proofs.ranges.next_store_address.Goals as goal

pub returns : goal.returns
returns c = rw (unit_shift c.args.step c.requires.step) (next_is c.args.step c.args.x c.requires.step)
