use Rattle.std.proofs.Common.{◌-◌, length}
use Rattle.small_states.proofs.HeldWords.{IsWalked}
use Rattle.small_states.proofs.small_value.count_leading_members.Given as goal

abbrev pub invariant-loop-n : goal.invariant-loop-n
invariant-loop-n l = IsWalked l.own l.words l.n l.k

abbrev pub decreases-loop-n : goal.decreases-loop-n
decreases-loop-n l = length l.own - l.k
