-- Nodes and certificates in the bytes.
use Rattle.std.specs.Prelude.{ℕ, List, map, Option, IfSome, ◌≡◌, ◌≤◌, ◌^◌, length, Ok, ◌+◌, nat_lt, true, false, sum_by}
use Rattle.std.specs.Option.{option_map}
use Rattle.std.specs.List.{All}
use Rattle.std.specs.List.Sorted.{IsStrictlyIncreasing, IsPartitionPoint}
use Rattle.tcd_base.specs.Place.{Place}
use Rattle.depth_cert.specs.declared.keys.Key.{Key}
use Rattle.depth_cert.specs.Keys.{number_of_key}
use Rattle.depth_cert.specs.declared.points.Exit.{Exit}
use Rattle.depth_cert.specs.Nodes.{NodeData}
use Rattle.depth_cert.specs.Certs.{CertData, IsCert}
use Rattle.depth_cert.specs.Grammar.{exit_at, certificate_of}
use Rattle.depth_cert.specs.Spelling.{bytes_of_cert}
use Rattle.packed_cert.specs.declared.places.ExitPlaces.{ExitPlaces}
use Rattle.packed_cert.specs.declared.places.NodePlaces.{NodePlaces}
use Rattle.packed_cert.specs.declared.places.PointPlace.{PointPlace}
use Rattle.packed_cert.specs.declared.point_reader.ExitRoom.{ExitRoom}
use Rattle.packed_cert.specs.ValuesInBytes.{place_in_bytes, read_from_bytes_or}
use Rattle.packed_cert.specs.PointsInBytes.{points_in_bytes, StateBeginsAt}
use Rattle.packed_cert.specs.Moves.{AllDifferOnlyInRows}
use Rattle.depth_cert.specs.Exits.{no_exit}

-- the exit that is decoded at an offset of a certificate's bytes
abbrev pub exit_in_bytes : ℕ → List ℕ → ℕ → Exit
exit_in_bytes version bytes place = read_from_bytes_or no_exit (exit_at version (place_in_bytes bytes place))

-- a node's exit begins at this offset of the bytes of a certificate of this format
abbrev pub ExitBeginsAt : ℕ → List ℕ → ℕ → Type 0
ExitBeginsAt version bytes place = (x : Exit × Place) × (exit_at version (place_in_bytes bytes place) ≡ Ok x)

-- an exit of a certificate is in the bytes from one cursor to another
abbrev pub IsExitBetween : ℕ → Place → Place → Type 0
IsExitBetween version c d = (x : Exit) × (exit_at version c ≡ Ok (x, d))

-- these are the offsets of an exit in a certificate's bytes: of its start and its end
pub record AreExitPlaces (version : ℕ) (bytes : List ℕ) (p : ExitPlaces) : Type 0 where
  pub order : p.start ≤ p.end
  pub within : p.end ≤ length bytes
  pub read : IsExitBetween version (place_in_bytes bytes p.start) (place_in_bytes bytes p.end)

-- the room for exits of a certificate's reader has the offsets of the exit read last, if any
abbrev pub HasLastExit : ℕ → List ℕ → ExitRoom → Type 0
HasLastExit version bytes room = IfSome room.last (AreExitPlaces version bytes)

-- what always holds of an `ExitAt`: an exit begins at its offset, and IE's and CCPN's bytes are
-- inside
pub record IsExitAt (version : ℕ) (bytes : List ℕ) (place : ℕ) : Type 0 where
  pub short : length bytes ≤ 2 ^ 30
  pub exit : ExitBeginsAt version bytes place
  pub room : place + 2 ≤ length bytes

-- the node with this key and need, an exit decoded at this offset, if any, and points with states
-- decoded at theirs
abbrev pub node_of_fields : ℕ → List ℕ → Key → ℕ → Option ℕ → List PointPlace → NodeData
node_of_fields version bytes key need exit points = record { key = key; need = need; exit = option_map (exit_in_bytes version bytes) exit; points = points_in_bytes version bytes points }

-- what always holds of a `Node`: its points ascend, and states and an exit are at their offsets
pub record IsNodeAt (version : ℕ) (bytes : List ℕ) (exit_place : Option ℕ) (points : List PointPlace) : Type 0 where
  pub short : length bytes ≤ 2 ^ 30
  pub rising : IsStrictlyIncreasing (map (λ p. p.addr) points)
  pub states : All (λ p. StateBeginsAt version bytes p.place) points
  pub exit : IfSome exit_place (ExitBeginsAt version bytes)
  pub moves : AllDifferOnlyInRows version bytes points

-- the node of a certificate that has these offsets in the bytes
abbrev pub node_in_bytes : ℕ → List ℕ → NodePlaces → NodeData
node_in_bytes version bytes n = node_of_fields version bytes n.key n.need n.exit n.points.items

-- the nodes of a certificate that have these offsets in the bytes
abbrev pub nodes_in_bytes : ℕ → List ℕ → List NodePlaces → List NodeData
nodes_in_bytes version bytes ns = map (node_in_bytes version bytes) ns

-- these are the offsets of a node in a certificate's bytes: the number is that of its key, and
-- states and an exit are there
pub record AreNodePlaces (version : ℕ) (bytes : List ℕ) (n : NodePlaces) : Type 0 where
  pub number : n.number ≡ number_of_key n.key
  pub node : IsNodeAt version bytes n.exit n.points.items

-- the nodes are in ascending order of the numbers of their keys
abbrev pub AscendByKey : List NodePlaces → Type 0
AscendByKey ns = IsStrictlyIncreasing (map (λ n. n.number) ns)

-- of nodes by ascending key, the first k have keys below that of this number and the others don't
abbrev pub IsCountOfNodesBelow : ℕ → List NodePlaces → ℕ → Type 0
IsCountOfNodesBelow number ns k = IsPartitionPoint (λ n. nat_lt n.number number ≡ true) (λ n. nat_lt n.number number ≡ false) ns k

-- the number of points that nodes have together
abbrev pub count_node_points : List NodePlaces → ℕ
count_node_points ns = sum_by (λ n. length n.points.items) ns

-- the certificate of this format whose nodes have these offsets in the bytes, as plain data
abbrev pub cert_in_bytes : ℕ → List ℕ → List NodePlaces → CertData
cert_in_bytes version bytes ns = record { version = version; nodes = nodes_in_bytes version bytes ns }

-- what always holds of a `Cert`: the bytes spell a certificate that keeps the limits, and its nodes
-- are at their places
pub record IsCertAt (version : ℕ) (bytes : List ℕ) (ns : List NodePlaces) : Type 0 where
  pub short : length bytes ≤ 2 ^ 30
  pub spells : certificate_of bytes ≡ Ok (cert_in_bytes version bytes ns)
  pub one : bytes_of_cert (cert_in_bytes version bytes ns) ≡ bytes
  pub limits : IsCert (cert_in_bytes version bytes ns)
  pub nodes : All (AreNodePlaces version bytes) ns
