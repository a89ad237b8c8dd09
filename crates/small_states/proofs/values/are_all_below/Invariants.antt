use Rattle.std.proofs.Common.{◌≡◌, ℕ, ◌<◌, get_or, length, take}
use Rattle.value_domain.specs.Values.{IsBelow, any_val}
use Rattle.small_states.specs.CompactForms.{all_values, values_to_last_known}
use Rattle.small_states.proofs.values.are_all_below.Given as goal

abbrev pub invariant-loop-n : goal.invariant-loop-n
invariant-loop-n l =
    (length (values_to_last_known (take l.n l.low.known.items)) ≡ length (values_to_last_known (take l.n l.high.known.items)))
    × ((r : ℕ) → r < length (values_to_last_known (take l.n l.high.known.items)) → IsBelow (get_or (all_values l.low) r any_val) (get_or (all_values l.high) r any_val))
