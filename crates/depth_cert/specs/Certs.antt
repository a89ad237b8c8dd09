-- Certificates as plain data, and what holds of them.
use Rattle.std.specs.Prelude.{◌≡◌, ◌≤◌, ◌⊎◌, ◌^◌, ℕ, List, length}
use Rattle.std.specs.List.{All}
use Rattle.std.specs.List.Sorted.{IsStrictlyIncreasing}
use Rattle.depth_cert.specs.Nodes.{NodeData, IsNode, count_points, key_numbers}

-- a certificate: its format, and its nodes in their order
pub record CertData : Type 0 where
  pub version : ℕ
  pub nodes : List NodeData

-- what holds of a certificate, its order and limits: nodes by ascending key, at most 2,048 of them
-- with at most 65,536 points
pub record IsCert (c : CertData) : Type 0 where
  pub version : (c.version ≡ 1) ⊎ (c.version ≡ 2)
  pub few : length c.nodes ≤ 2048
  pub rising : IsStrictlyIncreasing (key_numbers c.nodes)
  pub nodes : All (IsNode c.version) c.nodes
  pub points : count_points c.nodes ≤ 2 ^ 16
