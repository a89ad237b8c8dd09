-- The laws of values.
use Rattle.std.specs.Prelude.{◌++◌, ◌↔◌, ℕ, List}
use Rattle.value_domain.specs.declared.values.Val.{Val}
use Rattle.value_domain.specs.Sets.{Among, AreCoverable}
use Rattle.value_domain.specs.Limits.{Limits, AreLimits}
use Rattle.value_domain.specs.Values.{IsMember, IsWellFormed, IsInLattice, IsBelow, cover, members}

-- v is the least value that holds the words of xs
pub record IsLeastValue (b : Limits) (xs : List ℕ) (v : Val) : Type 0 where
  pub value : IsInLattice b v
  pub holds : (x : ℕ) → Among x xs → IsMember x v
  pub least : (w : Val) → IsInLattice b w → ((x : ℕ) → Among x xs → IsMember x w) → IsBelow v w

-- cover is a closure: the cover of a set of words is the least abstract value that holds the set
abbrev pub CoverIsLeast : Type 0
CoverIsLeast = (b : Limits) (xs : List ℕ) → AreLimits b → AreCoverable xs → IsLeastValue b xs (cover b xs)

-- the listed members of a well-formed abstract value are its members
abbrev pub MembersAreListed : Type 0
MembersAreListed = (v : Val) (x : ℕ) → IsWellFormed v → IsMember x v ↔ Among x (members v)

-- u is the least abstract value above both v and w, in the lattice of these limits
pub record IsLeastValueAbove (b : Limits) (v w u : Val) : Type 0 where
  pub value : IsInLattice b u
  pub left : IsBelow v u
  pub right : IsBelow w u
  pub least : (x : Val) → IsInLattice b x → IsBelow v x → IsBelow w x → IsBelow u x

-- the join of two abstract values, the cover of the members of both, is the least value above both
abbrev pub JoinIsLeast : Type 0
JoinIsLeast =
    (b : Limits) (v w : Val) → AreLimits b → IsInLattice b v → IsInLattice b w → IsLeastValueAbove b v w (cover b (members v ++ members w))
