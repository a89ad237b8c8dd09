use Rattle.std.proofs.Common.{◌∙◌, ap}
use Rattle.tc_object.specs.Objects.{ObjectData}
use Rattle.tc_link.specs.Placing.{PlacedData}
use Rattle.tc_link.proofs.relocated_sections.relocate_object.Goals as goal

pub apply_relocs-requires : goal.apply_relocs-requires
apply_relocs-requires c = c.deref_mut.ensures.value ∙ c.in_ok-sections.ensures.ok ∙ c.deref.ensures.value ∙ ap (λ (o : ObjectData). o.sections) (c.object.view_is ∙ ap (λ (p : PlacedData). p.object) c.each.view_is)
