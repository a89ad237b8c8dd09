use Rattle.depth_maker.proofs.join_entries.join_entry_duties.Goals as goal

pub join_call_duties-requires-clause-owes : goal.join_call_duties-requires-clause-owes
join_call_duties-requires-clause-owes c = rw c.in-Call.is at c.requires.owes

pub returns-in-Call-clause-ok : goal.returns-in-Call-clause-ok
returns-in-Call-clause-ok c = rw c.in-Call.is c.join_call_duties.ensures.ok

pub join_system_call_duties-requires-clause-owes : goal.join_system_call_duties-requires-clause-owes
join_system_call_duties-requires-clause-owes c = rw c.in-Syscall.is at c.requires.owes

pub returns-in-Syscall-clause-ok : goal.returns-in-Syscall-clause-ok
returns-in-Syscall-clause-ok c = rw c.in-Syscall.is c.join_system_call_duties.ensures.ok
