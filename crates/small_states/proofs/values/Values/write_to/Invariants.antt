use Rattle.std.proofs.Common.{◌≡◌, take, length}
use Rattle.small_states.specs.CompactForms.{values_to_last_known}
use Rattle.small_states.proofs.values.Values.write_to.Given as goal

abbrev pub invariant-loop-n : goal.invariant-loop-n
invariant-loop-n l = (take l.at l.out ≡ values_to_last_known (take l.n l.self.known.items)) × (l.at ≡ length (values_to_last_known (take l.n l.self.known.items))) × (length l.out ≡ 27)
