-- The law of the join of states.
use Rattle.std.specs.Prelude.{◌≡◌, length}
use Rattle.value_domain.specs.declared.states.State.{State}
use Rattle.value_domain.specs.Limits.{Limits, AreLimits}
use Rattle.value_domain.specs.State.{Covers, AreInLattice, state_join_of}

-- j is the least state that covers both s and t
pub record IsLeastStateAbove (b : Limits) (s t j : State) : Type 0 where
  pub values : AreInLattice b j.regs
  pub left : Covers j s
  pub right : Covers j t
  pub least : (u : State) → length u.regs ≡ length s.regs → AreInLattice b u.regs → Covers u s → Covers u t → Covers u j

-- two states with equally many registers and locals are joined to the least state that covers both
abbrev pub StateJoinIsLeast : Type 0
StateJoinIsLeast =
    (b : Limits) (s t : State) → AreLimits b → length s.regs ≡ length t.regs → length s.locals.items ≡ length t.locals.items
    → AreInLattice b s.regs → AreInLattice b t.regs → IsLeastStateAbove b s t (state_join_of b s t)
