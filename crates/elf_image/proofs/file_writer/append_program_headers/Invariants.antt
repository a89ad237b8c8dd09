use Rattle.std.proofs.Common.{◌≡◌, ◌+◌, ◌≤◌, ◌^◌, ◌++◌, map, drop, sum_by, length}
use Rattle.elf_image.specs.Images.{segment_data}
use Rattle.elf_image.specs.WrittenElf.{program_headers, elf_contents_offset}
use Rattle.elf_image.proofs.file_writer.append_program_headers.Given as goal

-- the segments so far and those that follow are all; those that follow fit
abbrev pub invariant-loop-segment : goal.invariant-loop-segment
invariant-loop-segment l =
    let rest = map segment_data (drop l.segment-index l.segments) in
    let all = map segment_data l.segments in
    record {
      headers : l.out.items ++ program_headers l.offset rest ≡ l.initial.out.items ++ program_headers (elf_contents_offset all) all;
      fits : l.offset + sum_by (λ s. length s.bytes) rest ≤ 2 ^ 25;
    }
