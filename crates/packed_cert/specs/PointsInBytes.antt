-- Points by their addresses and the places of their states in the bytes.
use Rattle.std.specs.Prelude.{◌≡◌, ◌+◌, ℕ, List, map, Ok, IfSome, ◌≤◌, length, zero, suc, ◌∷◌, ◌==◌, Bool, slice_index, [], nat_lt, true, false}
use Rattle.std.specs.List.{All}
use Rattle.std.specs.List.Sorted.{IsPartitionPoint, IsStrictlyIncreasing}
use Rattle.tcd_base.specs.Place.{Place}
use Rattle.value_domain.specs.declared.states.State.{State}
use Rattle.depth_cert.specs.declared.points.Point.{Point}
use Rattle.depth_cert.specs.Grammar.{state_at}
use Rattle.packed_cert.specs.declared.places.PointPlace.{PointPlace}
use Rattle.packed_cert.specs.declared.places.StatePlaces.{StatePlaces}
use Rattle.packed_cert.specs.declared.point_reader.ReadingRoom.{ReadingRoom}
use Rattle.packed_cert.specs.ValuesInBytes.{AreValuesInBytes, place_in_bytes, read_from_bytes_or}
use Rattle.value_domain.specs.State.{no_state}

-- the state that is decoded at an offset of a certificate's bytes
abbrev pub state_in_bytes : ℕ → List ℕ → ℕ → State
state_in_bytes version bytes place = read_from_bytes_or no_state (state_at version (place_in_bytes bytes place))

-- a point's state begins at this offset of the bytes of a certificate of this format
abbrev pub StateBeginsAt : ℕ → List ℕ → ℕ → Type 0
StateBeginsAt version bytes place = (x : State × Place) × (state_at version (place_in_bytes bytes place) ≡ Ok x)

-- the point that has this address, with the state that is decoded at its offset
abbrev pub point_in_bytes : ℕ → List ℕ → PointPlace → Point
point_in_bytes version bytes p = record { addr = p.addr; state = state_in_bytes version bytes p.place }

-- the points of a list, each with the state that is decoded at its offset
abbrev pub points_in_bytes : ℕ → List ℕ → List PointPlace → List Point
points_in_bytes version bytes ps = map (point_in_bytes version bytes) ps

-- the state of each of these points begins at its offset in a certificate's bytes
abbrev pub PointsHaveStates : ℕ → List ℕ → List PointPlace → Type 0
PointsHaveStates version bytes ps = All (λ p. StateBeginsAt version bytes p.place) ps

-- the points are in ascending order of their addresses
abbrev pub AscendByAddress : List PointPlace → Type 0
AscendByAddress ps = IsStrictlyIncreasing (map (λ p. p.addr) ps)

-- of points by ascending address, the first k are below this address and the others aren't
abbrev pub IsCountOfPointsBelow : ℕ → List PointPlace → ℕ → Type 0
IsCountOfPointsBelow addr ps k = IsPartitionPoint (λ p. nat_lt p.addr addr ≡ true) (λ p. nat_lt p.addr addr ≡ false) ps k

-- these are the offsets of this state in a certificate's bytes: of its start, its values and its
-- end
pub record AreStatePlaces (version : ℕ) (bytes : List ℕ) (s : State) (p : StatePlaces) : Type 0 where
  pub order : p.start ≤ p.end
  pub within : p.end ≤ length bytes
  pub read : state_at version (place_in_bytes bytes p.start) ≡ Ok (s, place_in_bytes bytes p.end)
  pub values : AreValuesInBytes version bytes s.regs p.values p.end

-- the room of a certificate's reader has the state read last, if any, and the offsets of that state
abbrev pub HasLastState : ℕ → List ℕ → ReadingRoom → Type 0
HasLastState version bytes room = IfSome room.last (AreStatePlaces version bytes room.state)

-- what always holds of a `StateAt`: a state begins at its offset, and the flags of its locals are
-- inside
pub record IsStateAt (version : ℕ) (bytes : List ℕ) (place : ℕ) : Type 0 where
  pub state : StateBeginsAt version bytes place
  pub room : place + 4 + slice_index bytes (place + 3) ≤ length bytes

-- n truth values from an offset of the bytes on, a byte each, as a point's state has its locals
abbrev pub flags_in_bytes : List ℕ → ℕ → ℕ → List Bool
flags_in_bytes bytes place zero = []
flags_in_bytes bytes place (suc n) = (slice_index bytes place == 1) ∷ flags_in_bytes bytes (place + 1) n
