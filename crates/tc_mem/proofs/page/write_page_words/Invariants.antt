use Rattle.std.proofs.Common.{◌≡◌, ◌+◌, ◌*◌, ◌≤◌, drop}
use Rattle.tc_mem.specs.Pages.{page_bytes_with_words}
use Rattle.tc_mem.proofs.page.write_page_words.Given as goal

abbrev pub invariant-loop-i : goal.invariant-loop-i
invariant-loop-i l = (l.i ≤ 16) × (l.bytes ≡ page_bytes_with_words l.initial.bytes (l.offset + 4 * l.i) (drop l.i l.words))

abbrev pub decreases-loop-i : goal.decreases-loop-i
decreases-loop-i l = l.i
