use Rattle.std.proofs.Common.{◌≡◌, ◌++◌, drop, map}
use Rattle.tc_asm.specs.DraftViews.{draft_section_of}
use Rattle.tc_asm.specs.Objects.{relocs_of_sections, relocs_of_all_sections}
use Rattle.tc_asm.proofs.finished_object.emit_relocs.Given as goal

abbrev pub invariant-loop-i : goal.invariant-loop-i
invariant-loop-i l = l.out.items ++ relocs_of_sections l.known l.i (drop l.i (map draft_section_of l.parts)) ≡ relocs_of_all_sections l.known (map draft_section_of l.parts)
