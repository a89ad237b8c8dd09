use Rattle.std.proofs.Common.{◌≡◌, map, drop}
use Rattle.elf_image.specs.Images.{byte_in_segments, segment_data}
use Rattle.elf_image.proofs.images.Image.byte.Given as goal

-- a byte that the segments hold is held by the rest
abbrev pub invariant-loop-segment : goal.invariant-loop-segment
invariant-loop-segment l = byte_in_segments l.self.segments l.addr ≡ byte_in_segments (map segment_data (drop l.segment-index l.segment-items)) l.addr
