use Rattle.std.proofs.Common.{◌≡◌, ◌++◌, take}
use Rattle.std.specs.List.{flat_map}
use Rattle.tc_object.specs.Spelling.{bytes_of_section}
use Rattle.tc_object.proofs.parts_writer.write_sections.Given as goal

abbrev pub invariant-loop-section : goal.invariant-loop-section
invariant-loop-section l = l.out.items ≡ l.initial.out.items ++ flat_map bytes_of_section (take l.section-index l.sections)
