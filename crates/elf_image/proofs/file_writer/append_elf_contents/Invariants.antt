use Rattle.std.proofs.Common.{◌≡◌, ◌++◌, map, drop}
use Rattle.elf_image.specs.Images.{segment_data}
use Rattle.elf_image.specs.WrittenElf.{elf_contents}
use Rattle.elf_image.proofs.file_writer.append_elf_contents.Given as goal

-- the segments so far and those that follow are all
abbrev pub invariant-loop-segment : goal.invariant-loop-segment
invariant-loop-segment l = l.out.items ++ elf_contents (map segment_data (drop l.segment-index l.segments)) ≡ l.initial.out.items ++ elf_contents (map segment_data l.segments)
