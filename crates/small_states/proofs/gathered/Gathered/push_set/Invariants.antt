use Rattle.std.proofs.Common.{◌≡◌, ◌≤◌, ◌-◌, ◌++◌, ◌∷◌, length, take}
use Rattle.std.specs.List.{flat_map}
use Rattle.tcd_base.specs.Bytes.{bytes_of_word}
use Rattle.small_states.proofs.gathered.Gathered.push_set.Given as goal

abbrev pub invariant-loop-n : goal.invariant-loop-n
invariant-loop-n l =
    (l.n ≤ length l.words)
    × (l.out.items ++ l.self ≡ (l.fn.out.items ++ l.fn.self) ++ length l.words ∷ flat_map bytes_of_word (take l.n l.words))

abbrev pub decreases-loop-n : goal.decreases-loop-n
decreases-loop-n l = length l.words - l.n
