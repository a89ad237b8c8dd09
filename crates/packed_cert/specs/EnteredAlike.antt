-- Nodes that are entered alike: with the same state at their entries, and with the same exit.
use Rattle.std.specs.Prelude.{◌≡◌, ℕ, List, Option, Some}
use Rattle.std.specs.Option.{option_map}
use Rattle.value_domain.specs.declared.states.State.{State}
use Rattle.depth_cert.specs.declared.keys.Key.{Key}
use Rattle.depth_cert.specs.Points.{find_point}
use Rattle.depth_cert.specs.Nodes.{NodeData, find_node}
use Rattle.packed_cert.specs.declared.places.NodePlaces.{NodePlaces}
use Rattle.packed_cert.specs.PointsInBytes.{state_in_bytes}
use Rattle.packed_cert.specs.NodesInBytes.{exit_in_bytes, nodes_in_bytes}

-- the state of a node's point at an address, if there is one
abbrev pub node_state_at : ℕ → NodeData → Option State
node_state_at addr n = option_map (λ p. p.state) (find_point addr n.points)

-- the nodes of two keys have the same state at the keys' entries, and the same exit
abbrev pub HaveSameEntryAndExit : List NodeData → Key → Key → Type 0
HaveSameEntryAndExit ns a b = (n m : NodeData) → find_node a ns ≡ Some n → find_node b ns ≡ Some m → (node_state_at a.entry n ≡ node_state_at b.entry m) × (n.exit ≡ m.exit)

-- the node of a key, if any, has at the key's entry the state decoded at one offset, and the exit
-- decoded at the other
abbrev pub HasEntryAndExitAt : ℕ → List ℕ → List NodePlaces → Key → ℕ → Option ℕ → Type 0
HasEntryAndExitAt version bytes ns k state exit =
    (n : NodeData) → find_node k (nodes_in_bytes version bytes ns) ≡ Some n → (node_state_at k.entry n ≡ Some (state_in_bytes version bytes state)) × (n.exit ≡ option_map (exit_in_bytes version bytes) exit)
