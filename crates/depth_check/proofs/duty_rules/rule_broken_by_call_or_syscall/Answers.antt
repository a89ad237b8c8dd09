use Rattle.depth_check.proofs.duty_rules.rule_broken_by_call_or_syscall.Goals as goal

pub returns-in-Call-clause-found : goal.returns-in-Call-clause-found
returns-in-Call-clause-found c = rw (c.in-Call.is, ← c.at.view_is) (rw (← c.at.view_is) at c.rule_broken_by_call_unless_known.ensures.found)

pub returns-in-Syscall-clause-found : goal.returns-in-Syscall-clause-found
returns-in-Syscall-clause-found c = rw (c.in-Syscall.is, ← c.at.view_is) (rw (← c.at.view_is) at c.rule_broken_by_system_call.ensures)
