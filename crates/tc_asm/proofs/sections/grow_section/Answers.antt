use Rattle.std.proofs.Common.{◌++◌, ℕ, List, map, replicate, ap, ◌∙◌}
use Rattle.tc_asm.specs.declared.sections.Part.{Part}
use Rattle.tc_asm.specs.Drafts.{DraftSectionData}
use Rattle.tc_asm.specs.DraftViews.{draft_section_of, use_of}
use Rattle.tc_asm.proofs.PartLaws.{extended-set, no_zeros}
use Rattle.tc_asm.proofs.sections.grow_section.Goals as goal

pub returns : goal.returns
returns c =
    let r : Part = c.index_mut-part.result.now in
    let m : Part = c.write_zeros_if_any.new.part in
    let named : List ℕ → DraftSectionData = λ bs. record { name = m.name.now; bytes = bs; uses = map use_of m.uses.items } in
    let longer : DraftSectionData → DraftSectionData = λ q. record q { bytes = q.bytes ++ c.args.bytes.now } in
    extended-set c.args.parts.now.items c.args.i r _ c.args.bytes.now c.requires
    (ap (λ bs. named (bs ++ replicate m.zeros 0)) c.in_ok-extend_from_slice.ensures.items
    ∙ ap named (no_zeros m.bytes.items c.args.bytes.now m.zeros c.in_ok-write_zeros_if_any.ensures.none)
    ∙ ap longer c.in_ok-write_zeros_if_any.ensures.same
    ∙ ap (λ (q : Part). longer (draft_section_of q)) c.index_mut-part.ensures.value)
