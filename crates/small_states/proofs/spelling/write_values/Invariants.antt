use Rattle.std.proofs.Common.{◌≡◌, ◌++◌, take}
use Rattle.std.specs.List.{flat_map}
use Rattle.depth_cert.specs.Spelling.{bytes_of_value}
use Rattle.small_states.specs.CompactForms.{values_to_last_known}
use Rattle.small_states.proofs.spelling.write_values.Given as goal

abbrev pub invariant-loop-n : goal.invariant-loop-n
invariant-loop-n l = l.out.items ++ l.gathered ≡ (l.initial.out.items ++ l.initial.gathered) ++ flat_map bytes_of_value (values_to_last_known (take l.n l.values.known.items))
