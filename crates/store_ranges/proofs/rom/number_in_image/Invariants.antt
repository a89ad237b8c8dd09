use Rattle.std.proofs.Common.{◌≡◌, ◌+◌, ◌-◌, ◌*◌, ◌^◌, ◌<◌, Some}
use Rattle.store_ranges.specs.Loads.{number_in_image}
use Rattle.store_ranges.proofs.rom.number_in_image.Given as goal

abbrev pub invariant-loop-k : goal.invariant-loop-k
invariant-loop-k l = (number_in_image l.image (l.x + (l.n - l.k)) l.k ≡ Some l.number) × (l.number < 2 ^ (8 * l.k))
