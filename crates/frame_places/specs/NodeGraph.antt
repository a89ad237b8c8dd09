-- The call graph of frames, by the numbers of its nodes: which nodes are reached from which. Its
-- edges are entries of frames by calls, interrupts and traps.
use Rattle.std.specs.Prelude.{◌≡◌, ◌<◌, ◌≤◌, ◌+◌, ◌*◌, ◌⊎◌, nat_eq, ℕ, Bool, true, false, List, ◌∷◌, length, Contains, slice_index, Option, Some, None, slice_index_or, []}
use Rattle.std.specs.declared.vec.Vec.{Vec}
use Rattle.std.specs.declared.alloc.Global.{Global}
use Rattle.indexmap.specs.IndexMap.{IndexMap, get}
use Rattle.frame_places.specs.declared.needs.reach.FrameEdge.{FrameEdge}
use Rattle.frame_places.specs.declared.needs.row.NeedRow.{NeedRow}

-- the edge of the call graph from the node k to the node t
abbrev pub edge_between : ℕ → ℕ → FrameEdge
edge_between k t = record { node = k; into = t }

-- some row of the node k enters the node t, so the call graph has an edge from k to t
abbrev pub SomeRowEnters : List NeedRow → ℕ → ℕ → Type 0
SomeRowEnters rows k t = (row : NeedRow) × Contains rows row × (row.node ≡ k) × Contains row.into.items t

-- the edges of the call graph are those of the rows: from a row's node to each node entered
pub record AreEdgesOfRows (rows : List NeedRow) (edges : List FrameEdge) : Type 0 where
  pub sound : (k t : ℕ) → Contains edges (edge_between k t) → SomeRowEnters rows k t
  pub complete : (k t : ℕ) → SomeRowEnters rows k t → Contains edges (edge_between k t)

-- the call graph gets the edges of one more row: from its node to each node that it enters
pub record AddsEdges (old new : List FrameEdge) (node : ℕ) (into : List ℕ) : Type 0 where
  pub keeps : (e : FrameEdge) → Contains old e → Contains new e
  pub sound : (e : FrameEdge) → Contains new e → Contains old e ⊎ ((e.node ≡ node) × Contains into e.into)
  pub complete : (t : ℕ) → Contains into t → Contains new (edge_between node t)

-- the edges of the call graph join nodes with numbers below `nodes`
pub record AreEdgesBelow (edges : List FrameEdge) (nodes : ℕ) : Type 0 where
  pub node : (e : FrameEdge) → Contains edges e → e.node < nodes
  pub into : (e : FrameEdge) → Contains edges e → e.into < nodes

-- in the call graph, the node j is reached from a node along edges, none or more
pub data IsNodeReachedFrom (edges : List FrameEdge) (j : ℕ) : ℕ → Type 0 where
  here : IsNodeReachedFrom edges j j
  along : (k t : ℕ) → Contains edges (edge_between k t) → IsNodeReachedFrom edges j t → IsNodeReachedFrom edges j k

-- the node lies on a cycle of the call graph, so its frame is recursive
pub record IsRecursiveNode (edges : List FrameEdge) (k : ℕ) : Type 0 where
  pub next : ℕ
  pub enters : Contains edges (edge_between k next)
  pub back : IsNodeReachedFrom edges k next

-- ---- marks

-- the number of nodes of the call graph without a mark
abbrev pub count_unmarked : List Bool → ℕ
count_unmarked [] = 0
count_unmarked (true ∷ ms) = count_unmarked ms
count_unmarked (false ∷ ms) = count_unmarked ms + 1

-- in the call graph this node is marked, as one from which a given node is reached
abbrev pub IsNodeMarked : List Bool → ℕ → Type 0
IsNodeMarked marks k = slice_index_or marks k false ≡ true

-- in the call graph, the node j is reached from each marked node
abbrev pub IsNodeReachedFromMarked : List FrameEdge → ℕ → List Bool → Type 0
IsNodeReachedFromMarked edges j marks = (k : ℕ) → IsNodeMarked marks k → IsNodeReachedFrom edges j k

-- this node is among the predecessors, the nodes with an edge to a given one
abbrev pub IsAmongPredecessors : Option (Vec ℕ Global) → ℕ → Type 0
IsAmongPredecessors None k = ⊥
IsAmongPredecessors (Some ks) k = Contains ks.items k

-- the map has the predecessors of each node: exactly the sources of the edges to the node
pub record ArePredecessors {S : Type 0} (edges : List FrameEdge) (sources : IndexMap ℕ (Vec ℕ Global) S) : Type 0 where
  pub sound : (k t : ℕ) → IsAmongPredecessors (get nat_eq sources t) k → Contains edges (edge_between k t)
  pub complete : (k t : ℕ) → Contains edges (edge_between k t) → IsAmongPredecessors (get nat_eq sources t) k

-- all predecessors in the map are numbers below `nodes`
abbrev pub ArePredecessorsBelow : {S : Type 0} → IndexMap ℕ (Vec ℕ Global) S → ℕ → Type 0
ArePredecessorsBelow sources nodes = (k t : ℕ) → IsAmongPredecessors (get nat_eq sources t) k → k < nodes

-- the node k is one more predecessor of the node t; nothing else changes
pub record AddsPredecessor {S T : Type 0} (old : IndexMap ℕ (Vec ℕ Global) S) (new : IndexMap ℕ (Vec ℕ Global) T) (k t : ℕ) : Type 0 where
  pub keeps : (j u : ℕ) → IsAmongPredecessors (get nat_eq old u) j → IsAmongPredecessors (get nat_eq new u) j
  pub there : IsAmongPredecessors (get nat_eq new t) k
  pub sound : (j u : ℕ) → IsAmongPredecessors (get nat_eq new u) j → IsAmongPredecessors (get nat_eq old u) j ⊎ ((j ≡ k) × (u ≡ t))

-- these nodes of the call graph are marked, those that weren't are queued, and nothing else
-- changes
pub record MarksAndQueuesUnmarked (nodes : List ℕ) (old new : List Bool) (work later : List ℕ) : Type 0 where
  pub keeps : (k : ℕ) → IsNodeMarked old k → IsNodeMarked new k
  pub marks : (k : ℕ) → Contains nodes k → IsNodeMarked new k
  pub only : (k : ℕ) → IsNodeMarked new k → IsNodeMarked old k ⊎ Contains nodes k
  pub listed : (k : ℕ) → Contains work k → Contains later k
  pub each : (k : ℕ) → IsNodeMarked new k → IsNodeMarked old k ⊎ Contains later k
  pub from_new : (k : ℕ) → Contains later k → Contains work k ⊎ IsNodeMarked new k
  pub less : 2 * count_unmarked new + length later ≤ 2 * count_unmarked old + length work
  pub same : length new ≡ length old

-- invariant of the backward search from j: marked nodes lead to j, and predecessors of a marked
-- node are marked unless that is queued
pub record SearchInvariantHolds (edges : List FrameEdge) (nodes j : ℕ) (marks : List Bool) (work : List ℕ) : Type 0 where
  pub all : length marks ≡ nodes
  pub sound : IsNodeReachedFromMarked edges j marks
  pub goal : IsNodeMarked marks j
  pub listed : (k : ℕ) → Contains work k → IsNodeMarked marks k
  pub done : (k t : ℕ) → Contains edges (edge_between k t) → IsNodeMarked marks t → Contains work t ⊎ IsNodeMarked marks k

-- marks and a queue of a search are carried on until the queue is empty: then all nodes are marked
-- from which a queued node is reached along edges
abbrev pub CompletesBackwardSearch : {S : Type 0} → IndexMap ℕ (Vec ℕ Global) S → List Bool → List Bool → List ℕ → Type 0
CompletesBackwardSearch sources old new work =
    (edges : List FrameEdge) (j : ℕ) → ArePredecessors edges sources → SearchInvariantHolds edges (length old) j old work
    → SearchInvariantHolds edges (length old) j new []

-- the marks are those of exactly the nodes of the call graph from which the node j is reached
pub record AreReachingMarks (edges : List FrameEdge) (nodes j : ℕ) (marks : List Bool) : Type 0 where
  pub each : length marks ≡ nodes
  pub sound : IsNodeReachedFromMarked edges j marks
  pub complete : (k : ℕ) → IsNodeReachedFrom edges j k → IsNodeMarked marks k

-- for edges with these predecessors, exactly the nodes are marked from which j is reached
abbrev pub AreReachingByPredecessors : {S : Type 0} → IndexMap ℕ (Vec ℕ Global) S → ℕ → ℕ → List Bool → Type 0
AreReachingByPredecessors sources nodes j marks = (edges : List FrameEdge) → ArePredecessors edges sources → AreReachingMarks edges nodes j marks

-- the node k has an edge of the call graph to a marked node
abbrev pub HasMarkedSuccessor : List Bool → List FrameEdge → ℕ → Type 0
HasMarkedSuccessor marks edges k = (t : ℕ) × Contains edges (edge_between k t) × IsNodeMarked marks t

-- ---- the first
-- the node on a cycle of the call graph that has the least of these numbers; or no node is on
-- a cycle
abbrev pub IsFirstRecursiveNode : List ℕ → List FrameEdge → Option ℕ → Type 0
IsFirstRecursiveNode orders edges None = (k : ℕ) → IsRecursiveNode edges k → ⊥
IsFirstRecursiveNode orders edges (Some k) =
    (k < length orders) × IsRecursiveNode edges k × ((j : ℕ) → IsRecursiveNode edges j → slice_index orders k ≤ slice_index orders j)

-- among the nodes before n, the node on a cycle that has the least of these numbers; or none of
-- them is on a cycle
abbrev pub IsFirstRecursiveNodeBefore : List ℕ → List FrameEdge → ℕ → Option ℕ → Type 0
IsFirstRecursiveNodeBefore orders edges n None = (k : ℕ) → k < n → IsRecursiveNode edges k → ⊥
IsFirstRecursiveNodeBefore orders edges n (Some k) =
    (k < length orders) × IsRecursiveNode edges k × ((j : ℕ) → j < n → IsRecursiveNode edges j → slice_index orders k ≤ slice_index orders j)
