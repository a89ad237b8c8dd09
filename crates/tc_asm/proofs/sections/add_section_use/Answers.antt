use Rattle.std.proofs.Common.{◌++◌, ◌∷◌, [], List, map, ap, ◌∙◌}
use Rattle.std.proofs.lemmas.List.{map_push}
use Rattle.tc_stmt.specs.Items.{reference_of}
use Rattle.tc_asm.specs.declared.sections.Part.{Part}
use Rattle.tc_asm.specs.Drafts.{DraftSectionData, UseData}
use Rattle.tc_asm.specs.DraftViews.{draft_section_of, use_of}
use Rattle.tc_asm.proofs.PartLaws.{used-set}
use Rattle.tc_asm.proofs.sections.add_section_use.Goals as goal

pub returns : goal.returns
returns c =
    let r : Part = c.index_mut-part.result.now in
    let u : UseData = record { offset = c.args.offset; reference = reference_of c.args.reference } in
    let named : List UseData → DraftSectionData = λ us. record { name = r.name.now; bytes = (draft_section_of r).bytes; uses = us } in
    let longer : Part → DraftSectionData = λ q. record (draft_section_of q) { uses = (draft_section_of q).uses ++ u ∷ [] } in
    used-set c.args.parts.now.items c.args.i r _ u c.requires
    (ap named (ap (map use_of) c.in_ok-push.ensures.items ∙ map_push use_of r.uses.items _) ∙ ap longer c.index_mut-part.ensures.value)
