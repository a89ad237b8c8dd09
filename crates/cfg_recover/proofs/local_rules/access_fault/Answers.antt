use Rattle.cfg_recover.proofs.local_rules.access_fault.Goals as goal

pub returns-in-Some : goal.returns-in-Some
returns-in-Some c = c.access_fault_at_word.ensures c.args.b.now c.args.s.now (rw c.in-Some.is at c.single_address_by_shape.ensures)
