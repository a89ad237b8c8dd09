use Rattle.std.proofs.Common.{◌≡◌, ◌+◌, ◌*◌, ◌<◌, ℕ, length, get_or}
use Rattle.tcd_base.specs.Bytes.{word_in_bytes}
use Rattle.tc_mem.proofs.page.page_words.Given as goal

abbrev pub invariant-loop-i : goal.invariant-loop-i
invariant-loop-i l = (length l.words ≡ 16) × ((k : ℕ) → k < l.i → get_or l.words k 0 ≡ word_in_bytes l.bytes (l.offset + 4 * k))
