use Rattle.std.proofs.Common.{◌++◌, ◌∙◌, List, map, ap, arith}
use Rattle.tc_asm.specs.declared.sections.Use.{Use}
use Rattle.tc_asm.specs.DraftViews.{use_of}
use Rattle.tc_asm.specs.Objects.{reloc_of}
use Rattle.tc_asm.proofs.RelocLaws.{relocs_more}
use Rattle.tc_asm.proofs.finished_object.emit_relocs.Goals as goal

pub loop-i-preserved : goal.loop-i-preserved
loop-i-preserved c =
    relocs_more c.args.known.now c.args.parts.now c.loop-i.i c.index-parts-i.result c.loop-i.out.items _ (omega arith)
    (c.in_ok-emit_section_relocs.ensures
    ∙ ap (λ (us : List Use). c.loop-i.out.items ++ map (reloc_of c.args.known.now c.loop-i.i) (map use_of us)) c.deref.ensures.value)
    ∙ c.loop-i.invariant
