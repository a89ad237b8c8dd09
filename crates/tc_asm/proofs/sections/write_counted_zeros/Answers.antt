use Rattle.std.proofs.Common.{◌++◌, ℕ, List, map, replicate, ap, ◌∙◌, append-nil}
use Rattle.tc_asm.specs.declared.sections.Part.{Part}
use Rattle.tc_asm.specs.Drafts.{DraftSectionData}
use Rattle.tc_asm.specs.DraftViews.{use_of}
use Rattle.tc_asm.proofs.PartLaws.{length-zeros, filled}
use Rattle.tc_asm.proofs.sections.write_counted_zeros.Goals as goal

pub returns-clause-same : goal.returns-clause-same
returns-clause-same c =
    let r : Part = c.args.part.now in
    let named : List ℕ → DraftSectionData = λ bs. record { name = r.name.now; bytes = bs; uses = map use_of r.uses.items } in
    ap (λ bs. named (bs ++ replicate 0 0)) c.in_ok-resize.ensures.items
    ∙ ap named
    (append-nil _
    ∙ filled r.bytes.items r.zeros c.section_len-len.result _
    (c.section_len-len.ensures ∙ length-zeros r.bytes.items r.zeros) r.bytes.ok.0)
