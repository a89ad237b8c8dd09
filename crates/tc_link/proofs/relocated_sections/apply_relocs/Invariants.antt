use Rattle.std.proofs.Common.{◌≡◌, List, None, take, map}
use Rattle.std.specs.List.{fold}
use Rattle.tc_link.specs.GlobalSymbols.{GlobalData}
use Rattle.tc_link.specs.Relocated.{symbol_addresses, sections_after_reloc}
use Rattle.tc_link.specs.Refusals.{first_refusal_from, reloc_refusal}
use Rattle.tc_link.specs.Shapes.{section_shape}
use Rattle.tc_link.proofs.relocated_sections.apply_relocs.Given as goal

abbrev pub invariant-loop-reloc : goal.invariant-loop-reloc
invariant-loop-reloc l = record {
  sections : (all : List GlobalData) → l.addresses ≡ symbol_addresses all l.placed → l.sections ≡ fold (sections_after_reloc all l.placed) l.placed.object.sections (take l.reloc-index l.placed.object.relocs);
  none : (all : List GlobalData) → l.addresses ≡ symbol_addresses all l.placed → first_refusal_from (reloc_refusal all l.number l.placed) 0 (take l.reloc-index l.placed.object.relocs) ≡ None;
  shapes : map section_shape l.sections ≡ map section_shape l.placed.object.sections;
}
