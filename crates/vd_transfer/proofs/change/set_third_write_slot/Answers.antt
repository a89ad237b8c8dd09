use Rattle.vd_transfer.proofs.ChangeLaws.{written_last-is, written_last-values}
use Rattle.vd_transfer.proofs.change.set_third_write_slot.Goals as goal

pub returns-clause-written : goal.returns-clause-written
returns-clause-written c = rw (c.set_write_slot.ensures.slot, c.set_write_slot.ensures.mark) (written_last-is c.args.s.now c.args.c.now c.args.r c.requires.free)

pub returns-clause-values : goal.returns-clause-values
returns-clause-values c = rw c.set_write_slot.ensures.slot (written_last-values c.args.b.now c.args.s.now c.args.c.now c.args.r c.requires.values c.requires.free c.requires.value)
