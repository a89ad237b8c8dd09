use Rattle.std.proofs.Common.{drop}
use Rattle.value_domain.specs.State.{FlagsImply}
use Rattle.value_domain.proofs.states.flags_imply.Given as goal

abbrev pub invariant-loop-i : goal.invariant-loop-i
invariant-loop-i l =
    (FlagsImply (drop l.i l.flags) (drop l.i l.others) → FlagsImply l.flags l.others)
    × (FlagsImply l.flags l.others → FlagsImply (drop l.i l.flags) (drop l.i l.others))
