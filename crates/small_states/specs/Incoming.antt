-- What is known at a place, and what flows into it.
use Rattle.std.specs.Prelude.{◌≡◌, ◌<◌, ◌^◌, ◌++◌, ℕ, Bool, true, false, List, if◌then◌else◌}
use Rattle.value_domain.specs.declared.values.Val.{Val}
use Rattle.value_domain.specs.declared.states.State.{State}
use Rattle.vd_transfer.specs.Changes.{state_after}
use Rattle.depth_cert.specs.Exits.{state_after_return, exit_of_state, lower_values}
use Rattle.depth_cert.specs.Spelling.{bytes_of_state}
use Rattle.depth_cert.specs.Known.{Known, state, leaving}
use Rattle.small_states.specs.CompactForms.{whole_exit}
use Rattle.small_states.specs.declared.incoming.Incoming.{Incoming}
use Rattle.small_states.specs.declared.incoming.Context.{Context}
use Rattle.small_states.specs.declared.incoming.Incoming.TheVariants.{Changed, After, Leaving}
use Rattle.depth_cert.specs.declared.points.Exit.{Exit}
use Rattle.small_states.specs.declared.incoming.Given.{Given}
use Rattle.small_states.specs.declared.incoming.Given.TheVariants.{Whole, Compact}

-- the state or exit that flows into a point or into a frame's exit: after a change, after a return,
-- or at leaving a frame
abbrev pub incoming_known : Incoming → Known
incoming_known (Changed s c) = state (state_after s.now c.now)
incoming_known (After s x kind) = state (state_after_return s.now (whole_exit x.now) kind)
incoming_known (Leaving s) = leaving (exit_of_state s.now)

-- the state of the point from which something flows into a place
abbrev pub sender_state : Incoming → State
sender_state (Changed s c) = s.now
sender_state (After s x kind) = s.now
sender_state (Leaving s) = s.now

-- the register values of what flows into a place: 27 of a state, or 14 of an exit
abbrev pub incoming_values : Incoming → List Val
incoming_values (Changed s c) = (state_after s.now c.now).regs
incoming_values (After s x kind) = (state_after_return s.now (whole_exit x.now) kind).regs
incoming_values (Leaving s) = lower_values (s.now).regs

-- what flows into a place (a point or a frame's exit) is an exit, not a state
abbrev pub is_incoming_exit : Incoming → Bool
is_incoming_exit (Changed s c) = false
is_incoming_exit (After s x kind) = false
is_incoming_exit (Leaving s) = true

-- the incoming state with these register values, and IE, CCPN, flags and locals of this context
abbrev pub incoming_state_with : List Val → Context → State
incoming_state_with values k = record { regs = values; ie = k.ie; ccpn = k.ccpn; lower = k.lower; locals = k.locals.now }

-- the incoming exit with these register values, and IE and CCPN of this context
abbrev pub incoming_exit_with : List Val → Context → Exit
incoming_exit_with values k = record { ie = k.ie; ccpn = k.ccpn; lower = values }

-- the state or exit that flows into a place, with its own values and this context
abbrev pub incoming_known_with : Incoming → Context → Known
incoming_known_with incoming k = if is_incoming_exit incoming then leaving (incoming_exit_with (incoming_values incoming) k) else state (incoming_state_with (incoming_values incoming) k)

-- the certificate's bytes of a known state are appended, and its CCPN is a byte; nothing is said of
-- an exit
abbrev pub AppendsKnownState : Known → List ℕ → List ℕ → Type 0
AppendsKnownState (state s) old new = (new ≡ old ++ bytes_of_state s) × (s.ccpn < 2 ^ 8)
AppendsKnownState (leaving x) old new = Unit {0}

-- the whole value of an incoming register, which is given whole or in compact form
abbrev pub incoming_value_of : Given → Val
incoming_value_of (Whole v) = v.now
incoming_value_of (Compact v) = v.now
