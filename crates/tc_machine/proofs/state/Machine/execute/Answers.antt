-- What these instructions do is said of every event.
use Rattle.tc_machine.proofs.state.Machine.execute.Goals as goal

pub returns-in-Compute : goal.returns-in-Compute
returns-in-Compute c = rw c.in-Compute.is (c.execute_operation.ensures c.args.event.now)

pub returns-in-Scaled : goal.returns-in-Scaled
returns-in-Scaled c = rw c.in-Scaled.is (c.execute_scaled_add.ensures c.args.event.now)

pub returns-in-Branch : goal.returns-in-Branch
returns-in-Branch c = rw c.in-Branch.is (c.execute_branch.ensures c.args.event.now)
