use Rattle.std.proofs.Common.{◌≡◌, map, take}
use Rattle.elf_image.specs.Images.{segment_data}
use Rattle.elf_image.specs.ReadElf.{loaded_segment}
use Rattle.elf_image.proofs.segments.loaded_segments.Given as goal

abbrev pub invariant-loop-load : goal.invariant-loop-load
invariant-loop-load l = map segment_data l.segments.items ≡ map (loaded_segment l.bytes) (take l.load-index l.loads)
