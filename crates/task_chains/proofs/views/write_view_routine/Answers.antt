use Rattle.std.proofs.Common.{◌≡◌, subst, arith}
use Rattle.task_chains.proofs.ViewBytes.{IsWrittenSoFar, written_all}
use Rattle.task_chains.proofs.views.write_view_routine.Goals as goal

pub returns : goal.returns
returns c =
    let end : c.loop-i.i ≡ 72 = let past = c.loop-i-test.false in omega arith in
    written_all c.args.tasks.now c.args.at c.args.bytes.now c.loop-i.bytes (subst (λ k. IsWrittenSoFar c.args.tasks.now c.args.at k c.args.bytes.now c.loop-i.bytes) end c.loop-i.invariant)
