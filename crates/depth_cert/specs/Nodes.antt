-- Nodes as plain data, and what holds of them.
use Rattle.std.specs.Prelude.{◌≡◌, ◌≤◌, ◌⊎◌, ℕ, List, Option, IfSome, Some, None, length, sum_by, ◌==◌, map, find, All}
use Rattle.std.specs.List.{All}
use Rattle.depth_cert.specs.Keys.{call_kind, sys_kind, IsKey, number_of_key}
use Rattle.depth_cert.specs.declared.keys.Key.{Key}
use Rattle.depth_cert.specs.declared.points.Exit.{Exit}
use Rattle.depth_cert.specs.declared.points.Point.{Point}
use Rattle.depth_cert.specs.Points.{AreAscendingPoints, IsPoint}
use Rattle.depth_cert.specs.Exits.{IsExit}

-- a node, with its points as a list
pub record NodeData : Type 0 where
  pub key : Key
  pub need : ℕ
  pub exit : Option Exit
  pub points : List Point

-- what holds of a certificate's node: a valid key and need, valid points in order, and a valid
-- exit, if any, only for a call or a system call
pub record IsNode (version : ℕ) (n : NodeData) : Type 0 where
  pub key : IsKey n.key
  pub need : n.need ≤ 4096
  pub exit : IfSome n.exit (λ e. ((n.key.kind ≡ call_kind) ⊎ (n.key.kind ≡ sys_kind)) × IsExit version e)
  pub rising : AreAscendingPoints n.points
  pub points : All (IsPoint version) n.points

-- the need of a node in areas; 0 without a node
abbrev pub need_or_zero : Option NodeData → ℕ
need_or_zero None = 0
need_or_zero (Some n) = n.need

-- the number of points of a list of nodes together
abbrev pub count_points : List NodeData → ℕ
count_points ns = sum_by (λ n. length n.points) ns

-- the keys of a certificate's nodes in their order, each as one number
abbrev pub key_numbers : List NodeData → List ℕ
key_numbers ns = map (λ n. number_of_key n.key) ns

-- the first of these nodes that has this key, if there is one
abbrev pub find_node : Key → List NodeData → Option NodeData
find_node k ns = find (λ n. number_of_key n.key == number_of_key k) ns
