-- Exits of frames: the exit of a state, the state after a return by it, and their order.
use Rattle.std.specs.Prelude.{◌+◌, ◌-◌, ◌==◌, ℕ, false, nat_lt, if◌then◌else◌, List, ◌∷◌, ◌++◌, take, drop, slice_index_or, ◌≤◌, IsTrue, ◌||◌, min, ◌≡◌, ◌<◌, ◌^◌, length, []}
use Rattle.depth_cert.specs.Keys.{call_kind}
use Rattle.value_domain.specs.declared.values.Val.{Val}
use Rattle.value_domain.specs.declared.states.State.{State}
use Rattle.value_domain.specs.Values.{any_val}
use Rattle.value_domain.specs.State.{is_lower_slot, AreBelow, joined_regs}
use Rattle.depth_cert.specs.declared.points.Exit.{Exit}
use Rattle.value_domain.specs.Limits.{Limits}
use Rattle.std.specs.List.{All}
use Rattle.depth_cert.specs.Points.{IsWellFormedCertValue}

-- ---- exits
-- the values of the 14 lower registers D0..D7 and A2..A7, which have the slots 0 to 7 and 16 to 21
-- in a state
abbrev pub lower_values : List Val → List Val
lower_values regs = take 8 regs ++ take 6 (drop 16 regs)

-- the exit of a frame that returns in this state: IE, CCPN, and the values of the lower registers
abbrev pub exit_of_state : State → Exit
exit_of_state s = record { ie = s.ie; ccpn = s.ccpn; lower = lower_values s.regs }

-- the index among an exit's 14 values of the lower register with slot i in a state
abbrev pub lower_value_index : ℕ → ℕ
lower_value_index i = if nat_lt i 8 then i else i - 8

-- the value in slot i of a state after a return: the exit's for a lower register, else v, the
-- caller's
abbrev pub value_after_return : ℕ → List Val → Val → Val
value_after_return i lower v = if is_lower_slot i then slice_index_or lower (lower_value_index i) any_val else v

-- a state's values, from slot i on, after a return by an exit: those of lower registers are the
-- exit's, the others stay
unfoldable pub values_after_return_from : ℕ → List Val → List Val → List Val
values_after_return_from i lower [] = []
values_after_return_from i lower (v ∷ vs) = value_after_return i lower v ∷ values_after_return_from (i + 1) lower vs

-- a state's 27 values after a return by an exit: those of lower registers are the exit's, the
-- others stay
abbrev pub values_after_return : List Val → List Val → List Val
values_after_return lower vs = values_after_return_from 0 lower vs

-- the state after a return by this exit of a certificate's node; a return from a call keeps the
-- exit's IE and CCPN, one from a system call restores the caller's
abbrev pub state_after_return : State → Exit → ℕ → State
state_after_return s x kind = record s {
  regs = values_after_return x.lower s.regs;
  ie = if kind == call_kind then x.ie else s.ie;
  ccpn = if kind == call_kind then x.ccpn else s.ccpn;
  lower = false;
}

-- an exit covers another: by the values of lower registers, IE and CCPN
pub record ExitCovers (upper x : Exit) : Type 0 where
  pub lower : AreBelow x.lower upper.lower
  pub enabled : IsTrue x.ie → IsTrue upper.ie
  pub priority : upper.ccpn ≤ x.ccpn

-- the join of two exits: the least one that covers both
abbrev pub joined_exit : Limits → Exit → Exit → Exit
joined_exit b x y = record { ie = x.ie || y.ie; ccpn = min x.ccpn y.ccpn; lower = joined_regs b x.lower y.lower }

-- the exit that a failed reading gives, to have a value: its lower registers have no values
abbrev pub no_exit : Exit
no_exit = record { ie = false; ccpn = 0; lower = [] }

-- an exit that a certificate of this format can have: 14 values of lower registers that the format
-- can spell, and a CCPN below 256
pub record IsExit (version : ℕ) (e : Exit) : Type 0 where
  pub lower : length e.lower ≡ 14
  pub values : All (IsWellFormedCertValue version) e.lower
  pub ccpn : e.ccpn < 2 ^ 8
