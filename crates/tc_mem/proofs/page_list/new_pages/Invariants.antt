use Rattle.std.proofs.Common.{◌≡◌, ◌≤◌, length, take}
use Rattle.std.specs.Prelude.{vec_capacity, vec_len}
use Rattle.tc_mem.proofs.Made.{AreMade}
use Rattle.tc_mem.proofs.page_list.new_pages.Given as goal

abbrev pub invariant-loop-number : goal.invariant-loop-number
invariant-loop-number l = record { made : AreMade l.ranges (take l.number-index l.number-items) l.pages.items; count : vec_len l.pages ≡ l.number-index; room : length l.number-items ≤ vec_capacity l.pages }
