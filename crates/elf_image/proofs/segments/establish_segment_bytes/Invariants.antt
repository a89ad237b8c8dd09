use Rattle.std.proofs.Common.{◌<◌, ◌^◌, ℕ, map, get_or}
use Rattle.std.specs.Prelude.{All}
use Rattle.elf_image.specs.Images.{SegmentData, segment_data}
use Rattle.elf_image.proofs.segments.establish_segment_bytes.Given as goal

-- each segment so far has numbers below 256
abbrev pub invariant-loop-segment : goal.invariant-loop-segment
invariant-loop-segment l = (k : ℕ) (d : SegmentData) → k < l.segment-index → All (λ b. b < 2 ^ 8) (get_or (map segment_data l.segments) k d).bytes
