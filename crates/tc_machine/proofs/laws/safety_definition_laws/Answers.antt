use Rattle.tc_machine.proofs.Guards.{every_event, every_run, every_start, safe_says, stores_told}
use Rattle.tc_machine.proofs.laws.safety_definition_laws.Goals as goal

pub returns-clause-events : goal.returns-clause-events
returns-clause-events c = every_event

pub returns-clause-runs : goal.returns-clause-runs
returns-clause-runs c = every_run

pub returns-clause-starts : goal.returns-clause-starts
returns-clause-starts c = every_start

pub returns-clause-safe : goal.returns-clause-safe
returns-clause-safe c = safe_says

pub returns-clause-stores : goal.returns-clause-stores
returns-clause-stores c = stores_told
