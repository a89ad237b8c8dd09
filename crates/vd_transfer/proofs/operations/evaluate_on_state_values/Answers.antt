use Rattle.vd_transfer.proofs.operations.evaluate_on_state_values.Goals as goal

pub returns-in-Some-arg_in_state-clause-of : goal.returns-in-Some-arg_in_state-clause-of
returns-in-Some-arg_in_state-clause-of c = rw (rw c.in-Some.is at c.arg_in_state.ensures.arg, rw c.in-Some-arg_in_state.is at c.arg_in_state-in-Some.ensures.arg) at c.write_operation_value.ensures.cover

pub returns-in-None-arg_in_state-clause-of : goal.returns-in-None-arg_in_state-clause-of
returns-in-None-arg_in_state-clause-of c = rw (rw c.in-Some.is at c.arg_in_state.ensures.arg) at c.evaluate_built_right.ensures.of
