use Rattle.std.proofs.Common.{◌≡◌, take, map}
use Rattle.tc_asm.specs.DraftViews.{draft_section_of}
use Rattle.tc_asm.specs.Objects.{section_of}
use Rattle.tc_asm.proofs.finished_object.emit_sections.Given as goal

abbrev pub invariant-loop-i : goal.invariant-loop-i
invariant-loop-i l = l.out.items ≡ map section_of (take l.i (map draft_section_of l.parts))
