use Rattle.std.proofs.Common.{◌/◌, ◌<◌, ◌≤◌, ℕ, Contains}
use Rattle.tc_mem.proofs.page_numbers.add_page_numbers.Given as goal

abbrev pub invariant-loop-number : goal.invariant-loop-number
invariant-loop-number l = record { kept : (n : ℕ) → Contains l.initial.numbers.items n → Contains l.numbers.items n; added : (n : ℕ) → l.range.at / 4096 ≤ n → n < l.number → Contains l.numbers.items n }
