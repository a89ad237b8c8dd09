use Rattle.std.proofs.Common.{◌≡◌, take}
use Rattle.small_states.specs.Incoming.{incoming_values}
use Rattle.small_states.specs.CompactForms.{all_values}
use Rattle.small_states.proofs.incoming_values.copy_incoming_values.Given as goal

abbrev pub invariant-loop-i : goal.invariant-loop-i
invariant-loop-i l = all_values l.values ≡ take l.i (incoming_values l.incoming)
