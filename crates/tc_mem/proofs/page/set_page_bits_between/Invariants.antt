use Rattle.std.proofs.Common.{◌≡◌, ◌<◌, ◌≤◌, ◌-◌, ◌||◌, ◌&&◌, ℕ, nat_le, nat_lt}
use Rattle.tc_mem.specs.Pages.{is_page_bit_set}
use Rattle.tc_mem.proofs.page.set_page_bits_between.Given as goal

abbrev pub invariant-loop-offset : goal.invariant-loop-offset
invariant-loop-offset l = record { low : l.from ≤ l.offset; high : l.offset ≤ l.to; bits : (k : ℕ) → k < 4096 → is_page_bit_set l.mapped k ≡ (is_page_bit_set l.initial.mapped k || (nat_le l.from k && nat_lt k l.offset)) }

abbrev pub decreases-loop-offset : goal.decreases-loop-offset
decreases-loop-offset l = l.to - l.offset
