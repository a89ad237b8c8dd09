use Rattle.std.proofs.Common.{[]}
use Rattle.tc_asm.specs.Objects.{symbol_of}
use Rattle.tc_stmt.proofs.LoopLaws.{pushed_got}
use Rattle.tc_asm.proofs.finished_object.emit_symbols.Goals as goal

pub loop-i-preserved : goal.loop-i-preserved
loop-i-preserved c = pushed_got symbol_of [] c.args.known.now c.loop-i.i _ _ _ _ c.at.ensures c.in_ok-push.ensures.items c.in_ok-made.ensures c.loop-i.invariant
