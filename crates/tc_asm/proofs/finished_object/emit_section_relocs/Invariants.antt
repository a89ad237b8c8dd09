use Rattle.std.proofs.Common.{◌≡◌, ◌++◌, take, map}
use Rattle.tc_asm.specs.DraftViews.{use_of}
use Rattle.tc_asm.specs.Objects.{reloc_of}
use Rattle.tc_asm.proofs.finished_object.emit_section_relocs.Given as goal

abbrev pub invariant-loop-i : goal.invariant-loop-i
invariant-loop-i l = l.out.items ≡ l.initial.out.items ++ map (reloc_of l.known l.section) (take l.i (map use_of l.uses))
