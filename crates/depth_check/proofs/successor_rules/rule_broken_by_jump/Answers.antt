use Rattle.depth_check.proofs.successor_rules.rule_broken_by_jump.Goals as goal

pub returns-in-Rel-clause-found : goal.returns-in-Rel-clause-found
returns-in-Rel-clause-found c = rw (c.in-Rel.is, ← c.at.view_is) (rw (← c.at.view_is) at c.rule_broken_by_kept_state.ensures)

pub returns-in-Abs-clause-found : goal.returns-in-Abs-clause-found
returns-in-Abs-clause-found c = rw c.in-Abs.is c.rule_broken_by_kept_state-in-Abs.ensures

pub returns-in-Reg-clause-found : goal.returns-in-Reg-clause-found
returns-in-Reg-clause-found c = rw c.in-Reg.is c.rule_broken_by_ji.ensures.found
