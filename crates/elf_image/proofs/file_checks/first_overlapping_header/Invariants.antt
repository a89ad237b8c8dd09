use Rattle.std.proofs.Common.{◌≡◌, find, drop}
use Rattle.elf_image.specs.ReadElf.{has_overlap_with}
use Rattle.elf_image.proofs.file_checks.first_overlapping_header.Given as goal

-- the first header that shares an address is in the rest
abbrev pub invariant-loop-other : goal.invariant-loop-other
invariant-loop-other l = find (has_overlap_with l.header) (drop l.other-index l.others) ≡ find (has_overlap_with l.header) l.others
