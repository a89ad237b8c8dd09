use Rattle.std.proofs.Common.{arith}
use Rattle.tc_asm.specs.DraftViews.{use_of}
use Rattle.tc_asm.specs.Objects.{reloc_of}
use Rattle.tc_stmt.proofs.LoopLaws.{pushed_view}
use Rattle.tc_asm.proofs.finished_object.emit_section_relocs.Goals as goal

pub loop-i-preserved : goal.loop-i-preserved
loop-i-preserved c =
    pushed_view use_of (reloc_of c.args.known.now c.args.section) c.args.out.now.items c.args.uses.now c.loop-i.i _ _ _ _ (omega arith)
    c.in_ok-push.ensures.items c.emit_reloc.ensures c.loop-i.invariant
