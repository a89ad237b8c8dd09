use Rattle.tc_link.proofs.ItemLaws.{on_ok}
use Rattle.tc_link.proofs.RelocLaws.{shapes_at}
use Rattle.tc_link.proofs.relocated_sections.apply_reloc.Goals as goal

pub returns-clause-shapes : goal.returns-clause-shapes
returns-clause-shapes c =
    on_ok c.apply_reloc_to_section.result _ _
    (λ w. shapes_at c.args.reloc.now c.args.sections.now c.apply_reloc_to_section.new.section _ c.address_in_section-place.result c.reloc_value-value.result c.requires.within c.requires.room w)
    c.apply_reloc_to_section.ensures.written
