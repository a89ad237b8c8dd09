use Rattle.std.proofs.Common.{◌++◌, ℕ, List, map, replicate, ap, ◌∙◌}
use Rattle.tc_asm.specs.declared.sections.Part.{Part}
use Rattle.tc_asm.specs.Drafts.{DraftSectionData}
use Rattle.tc_asm.specs.DraftViews.{draft_section_of, use_of}
use Rattle.tc_asm.proofs.PartLaws.{extended-set, more_zeros}
use Rattle.tc_asm.proofs.sections.add_section_zeros.Goals as goal

pub returns : goal.returns
returns c =
    let r : Part = c.index_mut-part.result.now in
    let m : Part = c.limit_counted_zeros.new.part in
    let named : List ℕ → DraftSectionData = λ bs. record { name = m.name.now; bytes = bs; uses = map use_of m.uses.items } in
    let longer : DraftSectionData → DraftSectionData = λ q. record q { bytes = q.bytes ++ replicate c.args.n 0 } in
    extended-set c.args.parts.now.items c.args.i r _ (replicate c.args.n 0) c.requires.place
    (ap named (more_zeros m.bytes.items m.zeros c.args.n)
    ∙ ap longer c.in_ok-limit_counted_zeros.ensures.same
    ∙ ap (λ (q : Part). longer (draft_section_of q)) c.index_mut-part.ensures.value)
