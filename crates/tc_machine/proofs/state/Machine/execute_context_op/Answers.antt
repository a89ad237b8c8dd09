-- What these instructions do is said of every event.
use Rattle.tc_machine.proofs.state.Machine.execute_context_op.Goals as goal

pub returns-in-Call : goal.returns-in-Call
returns-in-Call c = rw c.in-Call.is (c.call.ensures c.args.event.now)

pub returns-in-Ret : goal.returns-in-Ret
returns-in-Ret c = rw c.in-Ret.is (c.return_from_call.ensures c.args.event.now)

pub returns-in-Rfe : goal.returns-in-Rfe
returns-in-Rfe c = rw c.in-Rfe.is (c.return_from_exception.ensures c.args.event.now)

pub returns-in-Svlcx : goal.returns-in-Svlcx
returns-in-Svlcx c = rw c.in-Svlcx.is (c.save_lower_context.ensures c.args.event.now)

pub returns-in-Rslcx : goal.returns-in-Rslcx
returns-in-Rslcx c = rw c.in-Rslcx.is (c.restore_lower_context.ensures c.args.event.now)

pub returns-in-Bisr : goal.returns-in-Bisr
returns-in-Bisr c = rw c.in-Bisr.is (c.begin_interrupt_routine.ensures c.args.event.now)
