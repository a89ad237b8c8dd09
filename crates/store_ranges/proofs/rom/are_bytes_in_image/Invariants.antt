use Rattle.std.proofs.Common.{ℕ, ◌+◌, ◌<◌}
use Rattle.std.specs.Prelude.{IsSome}
use Rattle.elf_image.specs.Images.{image_byte}
use Rattle.store_ranges.proofs.rom.are_bytes_in_image.Given as goal

abbrev pub invariant-loop-i : goal.invariant-loop-i
invariant-loop-i l = (j : ℕ) → j < l.i → IsSome (image_byte l.image (l.x + j))
