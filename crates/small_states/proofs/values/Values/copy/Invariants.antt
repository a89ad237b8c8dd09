use Rattle.std.proofs.Common.{◌≡◌, ◌≤◌, ◌-◌, length, take}
use Rattle.small_states.proofs.values.Values.copy.Given as goal

abbrev pub invariant-loop-n : goal.invariant-loop-n
invariant-loop-n l = (l.n ≤ length l.self.known.items) × (l.known.items ≡ take l.n l.self.known.items)

abbrev pub invariant-loop-k : goal.invariant-loop-k
invariant-loop-k l = (l.n ≤ length l.self.known.items) × (l.known.items ≡ take l.k l.self.known.items)

abbrev pub decreases-loop-n : goal.decreases-loop-n
decreases-loop-n l = length l.own - l.n
