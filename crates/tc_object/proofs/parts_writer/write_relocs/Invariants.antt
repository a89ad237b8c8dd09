use Rattle.std.proofs.Common.{◌≡◌, ◌++◌, take}
use Rattle.std.specs.List.{flat_map}
use Rattle.tc_object.specs.Spelling.{bytes_of_reloc}
use Rattle.tc_object.proofs.parts_writer.write_relocs.Given as goal

abbrev pub invariant-loop-reloc : goal.invariant-loop-reloc
invariant-loop-reloc l = l.out.items ≡ l.initial.out.items ++ flat_map bytes_of_reloc (take l.reloc-index l.relocs)
