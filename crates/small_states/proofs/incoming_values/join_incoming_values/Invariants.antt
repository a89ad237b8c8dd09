use Rattle.std.proofs.Common.{◌≡◌, length, take}
use Rattle.value_domain.specs.State.{joined_regs}
use Rattle.small_states.specs.Incoming.{incoming_values}
use Rattle.small_states.specs.CompactForms.{all_values, values_to_last_known}
use Rattle.small_states.proofs.incoming_values.join_incoming_values.Given as goal

abbrev pub invariant-loop-n : goal.invariant-loop-n
invariant-loop-n l =
    (l.at ≡ length (values_to_last_known (take l.n l.left.known.items)))
    × (all_values l.values ≡ take l.at (joined_regs l.b (all_values l.left) (incoming_values l.incoming)))
