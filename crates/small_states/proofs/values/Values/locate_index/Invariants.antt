use Rattle.std.proofs.Common.{◌≡◌, ◌+◌, take, length}
use Rattle.small_states.specs.CompactForms.{values_to_last_known}
use Rattle.small_states.proofs.values.Values.locate_index.Given as goal

abbrev pub invariant-loop-n : goal.invariant-loop-n
invariant-loop-n l = l.i ≡ length (values_to_last_known (take l.n l.self.known.items)) + l.left
