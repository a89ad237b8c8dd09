use Rattle.std.proofs.Common.{◌≡◌, ◌+◌, ◌*◌, ◌<◌, ℕ, get_or}
use Rattle.tcd_base.specs.Bytes.{word_in_bytes}
use Rattle.packed_cert.proofs.values_at_places.is_set_of_words_at.Given as goal

abbrev pub invariant-loop-i : goal.invariant-loop-i
invariant-loop-i l = (j : ℕ) → j < l.i → get_or l.own j 0 ≡ word_in_bytes l.bytes (l.place + 4 * j)
