use Rattle.std.proofs.Common.{◌≡◌, drop}
use Rattle.elf_image.specs.ReadElf.{overlap_refusal}
use Rattle.elf_image.proofs.file_checks.check_no_segment_overlap.Given as goal

-- the first pair is in the rest
abbrev pub invariant-loop-i : goal.invariant-loop-i
invariant-loop-i l = overlap_refusal (drop l.i l.loads) ≡ overlap_refusal l.loads
