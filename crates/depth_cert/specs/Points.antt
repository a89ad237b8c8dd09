-- Points and exits, and what holds of them.
use Rattle.std.specs.Prelude.{◌≡◌, ◌≤◌, ◌<◌, ◌^◌, ◌==◌, ℕ, List, length, map, find, Option}
use Rattle.std.specs.List.{All}
use Rattle.std.specs.List.Sorted.{IsStrictlyIncreasing}
use Rattle.value_domain.specs.declared.values.Val.{Val}
use Rattle.value_domain.specs.declared.values.Val.TheVariants.{Set, Span}
use Rattle.value_domain.specs.declared.states.State.{State}
use Rattle.value_domain.specs.Sets.{AreSetWords}
use Rattle.value_domain.specs.Values.{span_len}
use Rattle.value_domain.specs.VersionLimits.{most_words_of, most_locals_of}
use Rattle.depth_cert.specs.declared.points.Point.{Point}

-- a value that a certificate's point or exit can have: a well-formed Set of at most as many words
-- as the format allows, or a well-formed Span of more members
abbrev pub IsWellFormedCertValue : ℕ → Val → Type 0
IsWellFormedCertValue version (Set ws) = AreSetWords ws × (length ws ≤ most_words_of version)
IsWellFormedCertValue version (Span lo last step) = (step ≤ 2) × (most_words_of version < span_len lo last step) × (last < 2 ^ 32)

-- a state that a certificate's point can have: 27 values, a CCPN below 256, and no more locals than
-- the certificate's format allows
pub record IsState (version : ℕ) (s : State) : Type 0 where
  pub regs : length s.regs ≡ 27
  pub values : All (IsWellFormedCertValue version) s.regs
  pub ccpn : s.ccpn < 2 ^ 8
  pub locals : length s.locals.items ≤ most_locals_of version

-- what holds of a certificate's point: its address is below 2^32, and its state is one that a point
-- can have
pub record IsPoint (version : ℕ) (p : Point) : Type 0 where
  pub addr : p.addr < 2 ^ 32
  pub state : IsState version p.state

-- the addresses of points
abbrev pub addresses : List Point → List ℕ
addresses ps = map (λ p. p.addr) ps

-- a node's points are in ascending order of their addresses
abbrev pub AreAscendingPoints : List Point → Type 0
AreAscendingPoints ps = IsStrictlyIncreasing (addresses ps)

-- the point of a node at an address, if there is one
abbrev pub find_point : ℕ → List Point → Option Point
find_point addr ps = find (λ p. p.addr == addr) ps

-- the point with this address and this state before its instruction
abbrev pub point_of : ℕ → State → Point
point_of addr s = record { addr = addr; state = s }
