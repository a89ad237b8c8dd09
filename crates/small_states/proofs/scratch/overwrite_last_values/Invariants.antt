use Rattle.std.proofs.Common.{◌≡◌, IsTrue, length}
use Rattle.small_states.proofs.WrittenOver.{IsWrittenTo}
use Rattle.small_states.proofs.scratch.overwrite_last_values.Given as goal

abbrev pub invariant-loop-n : goal.invariant-loop-n
invariant-loop-n l =
    IsWrittenTo l.values.known.items l.last.known.items l.last.rest l.n l.at l.regs
    × (length l.regs ≡ 27)
    × (length l.last.known.items ≡ length l.values.known.items)
    × (IsTrue l.same → l.regs ≡ l.initial.regs)
