-- States, their order, and the least state that covers two.
use Rattle.std.specs.Prelude.{◌<◌, ◌≤◌, ℕ, Bool, ◌&&◌, ◌||◌, ◌==◌, if◌then◌else◌, min, List, ◌∷◌, length, Option, Some, None, IsTrue, slice_index_or, nat_lt, nat_le, false, []}
use Rattle.value_domain.specs.declared.values.Val.{Val}
use Rattle.value_domain.specs.declared.states.State.{State}
use Rattle.value_domain.specs.Limits.{Limits}
use Rattle.value_domain.specs.Values.{IsWellFormed, IsInLattice, IsBelow, any_val, join_of}

-- each of a state's registers has a well-formed value
abbrev pub AreWellFormed : List Val → Type 0
AreWellFormed vs = (r : ℕ) → r < length vs → IsWellFormed (slice_index_or vs r any_val)

-- each of a state's registers has a value that is in the lattice of these limits
abbrev pub AreInLattice : Limits → List Val → Type 0
AreInLattice b vs = (r : ℕ) → r < length vs → IsInLattice b (slice_index_or vs r any_val)

-- each abstract value is below the one at its place in the other list, in the lattice
abbrev pub AreBelow : List Val → List Val → Type 0
AreBelow vs ws = (r : ℕ) → r < length vs → IsBelow (slice_index_or vs r any_val) (slice_index_or ws r any_val)

-- two lists of flags are equally long, and each flag of the first implies the one at its place in
-- the second
abbrev pub FlagsImply : List Bool → List Bool → Type 0
FlagsImply [] [] = Unit {0}
FlagsImply [] (y ∷ ys) = ⊥
FlagsImply (x ∷ xs) [] = ⊥
FlagsImply (x ∷ xs) (y ∷ ys) = (IsTrue x → IsTrue y) × FlagsImply xs ys

-- the context of the upper state (IE, least CCPN, lower) covers that of a state
abbrev pub CoversContext : State → State → Type 0
CoversContext upper s = (IsTrue s.ie → IsTrue upper.ie) × (upper.ccpn ≤ s.ccpn) × (IsTrue upper.lower → IsTrue s.lower)

-- the upper state covers the state s: each machine that s allows, upper allows too, by registers,
-- context and flags of saved lower contexts
pub record Covers (upper s : State) : Type 0 where
  pub regs : AreBelow s.regs upper.regs
  pub context : CoversContext upper s
  pub locals : FlagsImply upper.locals.items s.locals.items

-- the registers of two states, each with the least value that holds both
unfoldable pub joined_regs : Limits → List Val → List Val → List Val
joined_regs b [] ws = []
joined_regs b (v ∷ vs) [] = []
joined_regs b (v ∷ vs) (w ∷ ws) = join_of b v w ∷ joined_regs b vs ws

-- the flags of two states' saved lower contexts, each set only if both states have it set
abbrev pub joined_locals : List Bool → List Bool → List Bool
joined_locals [] ys = []
joined_locals (x ∷ xs) [] = []
joined_locals (x ∷ xs) (y ∷ ys) = (x && y) ∷ joined_locals xs ys

-- the join of two states: the least state that covers both
abbrev pub state_join_of : Limits → State → State → State
state_join_of b s t = record {
  regs = joined_regs b s.regs t.regs;
  ie = s.ie || t.ie;
  ccpn = min s.ccpn t.ccpn;
  lower = s.lower && t.lower;
  locals = record { items = joined_locals s.locals.items t.locals.items };
}

-- the join of two states, the least that covers both; none if they have different numbers of saved
-- lower contexts
abbrev pub state_join_if_any : Limits → State → State → Option State
state_join_if_any b s t = if length s.locals.items == length t.locals.items then Some (state_join_of b s t) else None

-- slot i of a state's 27 register values is that of a lower register: D0..D7 or A2..A7
abbrev pub is_lower_slot : ℕ → Bool
is_lower_slot i = nat_lt i 8 || (nat_le 16 i && nat_lt i 22)

-- the state to return if none can be read: no registers, and no saved lower contexts
abbrev pub no_state : State
no_state = record { regs = []; ie = false; ccpn = 0; lower = false; locals = record { items = [] } }
