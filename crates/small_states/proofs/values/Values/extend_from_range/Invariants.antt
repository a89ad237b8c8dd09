use Rattle.std.proofs.Common.{◌≡◌, ◌≤◌, ◌+◌, ◌-◌, ◌++◌, length, max, take}
use Rattle.small_states.specs.CompactForms.{all_values, values_to_last_known, values_from}
use Rattle.small_states.proofs.values.Values.extend_from_range.Given as goal

abbrev pub invariant-loop-n : goal.invariant-loop-n
invariant-loop-n l =
    (l.at ≡ length (values_to_last_known (take l.n l.others.known.items)))
    × (l.done ≡ max l.from l.at)
    × (l.done ≤ l.from + l.count)
    × (all_values l.self ≡ all_values l.initial.self ++ values_from (all_values l.others) l.from (l.done - l.from))
