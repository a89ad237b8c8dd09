use Rattle.std.proofs.Common.{◌≡◌, None, take}
use Rattle.std.specs.List.{flat_map}
use Rattle.tc_link.specs.GlobalSymbols.{globals_of}
use Rattle.tc_link.specs.Relocated.{relocated_sections}
use Rattle.tc_link.specs.Refusals.{first_refusal_from, reloc_refusal}
use Rattle.tc_link.proofs.relocated_sections.all_relocated_sections.Given as goal

abbrev pub invariant-loop-number : goal.invariant-loop-number
invariant-loop-number l = record {
  contents : l.contents.items ≡ flat_map (relocated_sections (globals_of l.placed)) (take l.number l.placed);
  none : first_refusal_from (λ object p. first_refusal_from (reloc_refusal (globals_of l.placed) object p) 0 p.object.relocs) 0 (take l.number l.placed) ≡ None;
}
