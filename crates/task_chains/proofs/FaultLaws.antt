-- The first place at which K17 fails, from tests of one point after another.
use Rattle.std.proofs.Common.{◌≡◌, ℕ, ◌+◌, ◌*◌, ◌^◌, ◌<◌, ◌≤◌, Bool, List, ◌∷◌, ◌++◌, length, get_or, take, IsTrue, refl, sym, subst}
use Rattle.std.specs.Prelude.{All, Contains, ◌↔◌}
use Rattle.std.proofs.lemmas.List.Elements.{All-same}
use Rattle.elf_image.specs.Images.{ImageData}
use Rattle.tcd_plan.specs.PlanData.{PlanData}
use Rattle.tc_isa.specs.declared.shapes.Shape.{Shape}
use Rattle.value_domain.specs.Limits.{Limits}
use Rattle.depth_cert.specs.declared.keys.Key.{Key}
use Rattle.depth_cert.specs.declared.points.Point.{Point}
use Rattle.depth_cert.specs.Keys.{number_of_key}
use Rattle.depth_cert.specs.Points.{AreAscendingPoints}
use Rattle.depth_cert.specs.Nodes.{NodeData}
use Rattle.depth_cert.specs.Certs.{CertData, IsCert}
use Rattle.cfg_recover.specs.Code.{IsCode}
use Rattle.cfg_recover.specs.RulesHoldOrFail.{limits_of_cert}
use Rattle.cfg_recover.proofs.CodeLaws.{IsCode-one}
use Rattle.cfg_recover.proofs.FirstFault.{all_done, least_point, in_cert, least_place, address_small}
use Rattle.task_chains.specs.Tasks.{TasksData}
use Rattle.task_chains.specs.Rule17.{KeepsRule17ByShape, KeepsRule17AtCertPoint, KeepsRule17, BreaksRule17, at_point, IsRule17Fault, KeepsRule17AtPoint, IsRule17NodeFault}
use Rattle.packed_cert.proofs.WalkedPoints.{met}

-- ---- a point
module _ (b : Limits) (view : ImageData) (plan : PlanData) (tasks : TasksData) (key : Key) (point : Point) where
  -- the instruction that is found is the one there
  pub apart_found : (found : Shape) (n : ℕ) (r : Bool) → IsCode view plan point.addr found n → (IsTrue r ↔ KeepsRule17ByShape b plan tasks key point.addr point.state found) → IsTrue r ↔ KeepsRule17AtPoint b view plan tasks key point
  apart_found found n r there both = (
    λ t shape m code. subst (KeepsRule17ByShape b plan tasks key point.addr point.state) (IsCode-one view plan point.addr found shape n m there code).0 (both.0 t),
    λ holds. both.1 (holds found n there),
  )

-- ---- a node
module _ (b : Limits) (view : ImageData) (plan : PlanData) (tasks : TasksData) (node : NodeData) (points : List Point) (same : points ≡ node.points) where
  abbrev Holds : Point → Type 0
  Holds p = KeepsRule17AtPoint b view plan tasks node.key p

  pub node_fails : (i : ℕ) (point : Point) → AreAscendingPoints node.points → i < length points → point ≡ get_or points i point → All Holds (take i points) → (Holds point → ⊥) → IsRule17NodeFault b view plan tasks node point.addr
  node_fails i point rising lt at before fails = record {
    point = point;
    stands = subst (λ (l : List Point). Contains l point) same (i, lt, sym at);
    addr = refl;
    fails = fails;
    least = λ other. least_point Holds node points same i point other rising lt at before;
  }

-- the first point of a walk at which the rule fails
pub walked_fails : (b : Limits) (view : ImageData) (plan : PlanData) (tasks : TasksData) (node : NodeData) (done after : List Point) (point : Point) → AreAscendingPoints node.points → node.points ≡ done ++ point ∷ after
    → All (KeepsRule17AtPoint b view plan tasks node.key) done → (KeepsRule17AtPoint b view plan tasks node.key point → ⊥) → IsRule17NodeFault b view plan tasks node point.addr
walked_fails b view plan tasks node done after point rising split hold fails =
    let m = met done after point in
    let all : List Point = done ++ point ∷ after in
    node_fails b view plan tasks node all (sym split) (length done) point rising m.0 m.1 (All-same (KeepsRule17AtPoint b view plan tasks node.key) (take (length done) all) done m.2 hold) fails

-- ---- a certificate
module _ (view : ImageData) (plan : PlanData) (tasks : TasksData) (cert : CertData) (is_cert : IsCert cert) (nodes : List NodeData) (same : nodes ≡ cert.nodes) where
  abbrev HoldsAll : NodeData → Type 0
  HoldsAll n = All (λ p. KeepsRule17AtCertPoint view plan tasks cert n p) n.points

  fails_here : (node : NodeData) (p : ℕ) → Contains cert.nodes node → IsRule17NodeFault (limits_of_cert plan cert) view plan tasks node p → BreaksRule17 view plan tasks cert node.key p
  fails_here node p member f = subst (BreaksRule17 view plan tasks cert node.key) f.addr (at_point node f.point member f.stands f.fails)

  abbrev HoldsIn : NodeData → Point → Type 0
  HoldsIn n p = KeepsRule17AtCertPoint view plan tasks cert n p

  least_of_all : (i : ℕ) (node : NodeData) (p : ℕ) (j : Key) (x : ℕ) → i < length nodes → node ≡ get_or nodes i node → All HoldsAll (take i nodes) → IsRule17NodeFault (limits_of_cert plan cert) view plan tasks node p → p < 2 ^ 32
      → BreaksRule17 view plan tasks cert j x → number_of_key node.key * 2 ^ 32 + p ≤ number_of_key j * 2 ^ 32 + x
  least_of_all i node p _ _ lt at before f small (at_point other point member stands wrong) = least_place HoldsIn cert is_cert nodes same i node other p point lt at before f.least small member stands wrong

  pub first_fails : (i : ℕ) (node : NodeData) (p : ℕ) → i < length nodes → node ≡ get_or nodes i node → All HoldsAll (take i nodes) → IsRule17NodeFault (limits_of_cert plan cert) view plan tasks node p → IsRule17Fault view plan tasks cert node.key p
  first_fails i node p lt at before f =
      let member = in_cert HoldsIn cert is_cert nodes same i node lt at in
      let small = subst (λ n. n < 2 ^ 32) f.addr (address_small cert is_cert node f.point member f.stands) in
      record { fails = fails_here node p member f; least = λ j x wrong. least_of_all i node p j x lt at before f small wrong }

  pub all_apart : (i : ℕ) → length nodes ≤ i → All HoldsAll (take i nodes) → KeepsRule17 view plan tasks cert
  all_apart i past all = subst (λ (l : List NodeData). All HoldsAll l) same (all_done HoldsAll nodes i past all)
