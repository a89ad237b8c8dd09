-- What is known at a place of a frame (the state of a point, or an exit), its order and joins.
use Rattle.std.specs.Prelude.{Option, Some, None, option_map, ℕ, ◌≡◌}
use Rattle.value_domain.specs.declared.states.State.{State}
use Rattle.value_domain.specs.Limits.{Limits}
use Rattle.value_domain.specs.State.{Covers, state_join_if_any}
use Rattle.depth_cert.specs.declared.points.Exit.{Exit}
use Rattle.depth_cert.specs.Exits.{ExitCovers, joined_exit}
use Rattle.depth_cert.specs.declared.points.Exit as exits

-- what is known at a place of a frame: the state at a point, or the exit
pub data Known : Type 0 where
  state : State → Known
  leaving : Exit → Known

-- what is known at a place of a frame covers something of its kind: a state a state, an exit an
-- exit
abbrev pub CoversKnown : Known → Known → Type 0
CoversKnown (state u) (state s) = Covers u s
CoversKnown (leaving y) (leaving x) = ExitCovers y x
CoversKnown (state u) (leaving x) = ⊥
CoversKnown (leaving y) (state s) = ⊥

-- what is known at a place of a frame, joined from two: the least that covers both; none for a
-- state and an exit, or for states with different numbers of locals
abbrev pub joined_known : Limits → Known → Known → Option Known
joined_known b (state s) (state t) = option_map state (state_join_if_any b s t)
joined_known b (leaving x) (leaving y) = Some (leaving (joined_exit b x y))
joined_known b (state s) (leaving y) = None
joined_known b (leaving x) (state t) = None

-- the lower bound of CCPN in a state or an exit
abbrev pub known_ccpn : Known → ℕ
known_ccpn (state s) = s.ccpn
known_ccpn (leaving x) = x.ccpn

-- what is known at a place of a frame is this state u; nothing is said if it is an exit
abbrev pub IsKnownState : Known → State → Type 0
IsKnownState (state s) u = u ≡ s
IsKnownState (leaving x) u = Unit {0}

-- what is known at a place of a frame isn't an exit
abbrev pub IsNotExit : Known → Type 0
IsNotExit (state s) = Unit {0}
IsNotExit (leaving x) = ⊥

-- the exit that is known at a place of a frame; none for a state, or if nothing is known
abbrev pub exit_if_known : Option Known → Option exits.Exit
exit_if_known None = None
exit_if_known (Some (state s)) = None
exit_if_known (Some (leaving x)) = Some x
