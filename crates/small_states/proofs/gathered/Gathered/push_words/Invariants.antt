use Rattle.std.proofs.Common.{◌≡◌, ◌++◌, ◌+◌, ◌*◌, length, take}
use Rattle.std.specs.List.{flat_map}
use Rattle.tcd_base.specs.Bytes.{bytes_of_word}
use Rattle.small_states.specs.Zeros.{AreZerosAfter}
use Rattle.small_states.proofs.gathered.Gathered.push_words.Given as goal

abbrev pub invariant-loop-n : goal.invariant-loop-n
invariant-loop-n l =
    AreZerosAfter l.at l.self-inside.bytes
    × (take l.at l.self-inside.bytes ≡ l.fn.self ++ flat_map bytes_of_word (take l.n l.words))
    × (l.at ≡ length l.fn.self + 4 * l.n)
