use Rattle.std.proofs.Common.{◌≡◌, ◌+◌, ◌*◌, ◌<◌, ℕ, length, take}
use Rattle.tc_mem.specs.Pages.{is_page_bit_set}
use Rattle.tcd_base.specs.Ranges.{is_address_in_ranges}
use Rattle.tc_mem.proofs.page.new_page.Given as goal

abbrev pub invariant-loop-range : goal.invariant-loop-range
invariant-loop-range l = record { size : length l.mapped ≡ 64; bits : (k : ℕ) → k < 4096 → is_page_bit_set l.mapped k ≡ is_address_in_ranges (take l.range-index l.ranges) (l.number * 4096 + k) }
