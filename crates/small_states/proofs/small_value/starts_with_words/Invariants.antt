use Rattle.std.proofs.Common.{◌≡◌, ◌≤◌, IsTrue, length, take}
use Rattle.small_states.proofs.small_value.starts_with_words.Given as goal

abbrev pub invariant-loop-n : goal.invariant-loop-n
invariant-loop-n l = (length l.words ≤ length l.own) × (IsTrue l.same → take l.n l.own ≡ take l.n l.words)
