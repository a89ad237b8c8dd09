-- Borrowed segments as plain data.
use Rattle.std.specs.Borrow.{Bor}
use Rattle.elf_image.specs.declared.segments.Segment.{Segment}
use Rattle.elf_image.specs.Images.{SegmentData, segment_data}

-- the plain data of a borrowed segment
abbrev pub borrowed_segment_data : Bor Segment → SegmentData
borrowed_segment_data s = segment_data s.now
