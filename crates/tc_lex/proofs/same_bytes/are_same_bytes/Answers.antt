use Rattle.std.proofs.Common.{arith}
use Rattle.tc_lex.proofs.SameBytes.{lengths_differ, byte_differs, byte_same, bytes_end}
use Rattle.tc_lex.proofs.same_bytes.are_same_bytes.Goals as goal

pub returns-then-a-b : goal.returns-then-a-b
returns-then-a-b c = lengths_differ c.args.a.now c.args.b.now c.if-a-b.true

pub returns-then-x-y : goal.returns-then-x-y
returns-then-x-y c = byte_differs c.args.a.now c.args.b.now c.loop-i.i _ c.loop-i.invariant _ (omega arith) (omega arith) c.if-x-y.true

pub loop-i-preserved : goal.loop-i-preserved
loop-i-preserved c = byte_same c.args.a.now c.args.b.now c.loop-i.i _ c.loop-i.invariant _ (omega arith) (omega arith) c.if-x-y.false

pub returns : goal.returns
returns c = bytes_end c.args.a.now c.args.b.now c.loop-i.i _ c.loop-i.invariant (omega arith) (omega arith)
