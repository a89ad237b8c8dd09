use Rattle.tc_machine.proofs.accesses.+store_byte_by_byte.Given as goal

abbrev pub decreases-store_byte_by_byte : goal.decreases-store_byte_by_byte
decreases-store_byte_by_byte l = l.n
