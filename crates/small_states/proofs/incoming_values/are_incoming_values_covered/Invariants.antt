use Rattle.std.proofs.Common.{◌≡◌, ℕ, ◌<◌, get_or, length, take}
use Rattle.value_domain.specs.Values.{IsBelow, any_val}
use Rattle.small_states.specs.Incoming.{incoming_values}
use Rattle.small_states.specs.CompactForms.{all_values, values_to_last_known}
use Rattle.small_states.proofs.incoming_values.are_incoming_values_covered.Given as goal

abbrev pub invariant-loop-n : goal.invariant-loop-n
invariant-loop-n l =
    (l.at ≡ length (values_to_last_known (take l.n l.upper.known.items)))
    × ((r : ℕ) → r < l.at → IsBelow (get_or (incoming_values l.incoming) r any_val) (get_or (all_values l.upper) r any_val))
