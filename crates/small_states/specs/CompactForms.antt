-- The values, states and exits that compact ones stand for.
use Rattle.std.specs.Prelude.{◌≡◌, ◌+◌, ℕ, zero, suc, List, ◌∷◌, ◌++◌, length, replicate, slice_index_or, ◌<◌, ◌≤◌, take, []}
use Rattle.std.specs.List.{flat_map}
use Rattle.value_domain.specs.declared.values.Val.{Val}
use Rattle.value_domain.specs.declared.states.State.{State}
use Rattle.value_domain.specs.Values.{any_val}
use Rattle.depth_cert.specs.declared.points.Exit.{Exit}
use Rattle.small_states.specs.declared.values.SpacedValue.{SpacedValue}
use Rattle.small_states.specs.declared.values.Values.{Values}
use Rattle.small_states.specs.declared.states.SmallState.{SmallState}
use Rattle.small_states.specs.declared.states.SmallExit.{SmallExit}
use Rattle.depth_cert.specs.Known.{Known, state, leaving}
use Rattle.small_states.specs.declared.known.KnownForm.{KnownForm}
use Rattle.small_states.specs.declared.known.KnownForm.TheVariants.{Point, Leaves}
use Rattle.small_states.specs.declared.known.Outline.{Outline}

-- the values that an entry of a compact list stands for: as many unknown ones as the entry says,
-- then its known one
abbrev pub spaced_values : SpacedValue → List Val
spaced_values s = replicate s.anys any_val ++ s.value ∷ []

-- the values of a compact list up to the last known one
abbrev pub values_to_last_known : List SpacedValue → List Val
values_to_last_known known = flat_map spaced_values known

-- all values that a compact list stands for, known and unknown ones, in their order
abbrev pub all_values : Values → List Val
all_values v = values_to_last_known v.known.items ++ replicate v.rest any_val

-- `count` of these values from the index `from` on; unknown values past the end of the list
unfoldable pub values_from : List Val → ℕ → ℕ → List Val
values_from vs from zero = []
values_from vs from (suc count) = slice_index_or vs from any_val ∷ values_from vs (from + 1) count

-- the whole state that a compact state stands for
abbrev pub whole_state : SmallState → State
whole_state s = record { regs = all_values s.regs.value; ie = s.ie; ccpn = s.ccpn; lower = s.lower; locals = s.locals }

-- the whole exit that a compact exit stands for
abbrev pub whole_exit : SmallExit → Exit
whole_exit x = record { ie = x.ie; ccpn = x.ccpn; lower = all_values x.lower.value }

-- the state or the exit that a compact form stands for
abbrev pub whole_known : KnownForm → Known
whole_known (Point s) = state (whole_state s)
whole_known (Leaves x) = leaving (whole_exit x)

-- the outline has IE, CCPN and the number of locals of a known state; an exit has none
abbrev pub IsOutline : Known → Outline → Type 0
IsOutline (state s) o = (s.ie ≡ o.ie) × (s.ccpn ≡ o.ccpn) × (length s.locals.items ≡ o.held)
IsOutline (leaving x) o = ⊥

-- the index in a compact list that is `others` unknown values after the first n known ones
abbrev pub index_after_known : Values → ℕ → ℕ → ℕ
index_after_known v n others = length (values_to_last_known (take n v.known.items)) + others

-- a compact list has at least `others` unknown values right before its known value number n
abbrev pub HasUnknownsBefore : Values → ℕ → ℕ → Type 0
HasUnknownsBefore v n others = (d : SpacedValue) → others ≤ (slice_index_or v.known.items n d).anys

-- the index i of a compact list is after n known values and `others` unknown ones, before the next
-- known value
pub record IsIndexAfter (v : Values) (i n others : ℕ) : Type 0 where
  pub within : n ≤ length v.known.items
  pub at : i ≡ index_after_known v n others
  pub before : n < length v.known.items → HasUnknownsBefore v n others
