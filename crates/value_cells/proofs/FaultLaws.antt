-- The first place at which K16 fails, from tests of one point after another.
use Rattle.std.proofs.Common.{◌≡◌, ℕ, ◌+◌, ◌^◌, ◌<◌, ◌≤◌, Bool, List, ◌∷◌, ◌++◌, length, get_or, take, IsTrue, refl, sym, subst}
use Rattle.std.specs.Prelude.{All, Contains, ◌↔◌}
use Rattle.std.proofs.lemmas.List.Elements.{All-contains, All-same}
use Rattle.elf_image.specs.Images.{ImageData}
use Rattle.tcd_plan.specs.PlanData.{PlanData, IsPlan}
use Rattle.tc_isa.specs.declared.shapes.Shape.{Shape}
use Rattle.value_domain.specs.Limits.{Limits}
use Rattle.depth_cert.specs.declared.keys.Key.{Key}
use Rattle.depth_cert.specs.declared.points.Point.{Point}
use Rattle.depth_cert.specs.Points.{AreAscendingPoints}
use Rattle.depth_cert.specs.Nodes.{NodeData}
use Rattle.depth_cert.specs.Certs.{CertData, IsCert}
use Rattle.tcd_plan.proofs.ApartLaws.{IsInOne-fits}
use Rattle.cfg_recover.specs.Code.{IsCode}
use Rattle.cfg_recover.specs.RulesHoldOrFail.{limits_of_cert}
use Rattle.cfg_recover.proofs.CodeLaws.{IsCode-one}
use Rattle.cfg_recover.proofs.FirstFault.{all_done, least_point, in_cert, least_place, address_small}
use Rattle.value_cells.specs.declared.cells.Cell.{Cell}
use Rattle.value_cells.specs.Cells.{AreCells}
use Rattle.packed_cert.proofs.WalkedPoints.{met}
use Rattle.value_cells.specs.Keeping.{InstructionKeepsCellBounds, PointKeepsCellBounds, CertKeepsCellBounds, FailsRule16At, breaks_at, rule_16_place_number, IsFirstRule16Fault, IsFirstRule16NodeFault}

-- ---- a point
module _ (b : Limits) (image : ImageData) (plan : PlanData) (cells : List Cell) (point : Point) where
  -- the instruction that is found is the one there
  pub keeps_found : (found : Shape) (n : ℕ) (r : Bool) → IsCode image plan point.addr found n → (IsTrue r ↔ InstructionKeepsCellBounds b plan cells point.state found) → IsTrue r ↔ PointKeepsCellBounds b image plan cells point
  keeps_found found n r there both = (
    λ t shape m code. subst (InstructionKeepsCellBounds b plan cells point.state) (IsCode-one image plan point.addr found shape n m there code).0 (both.0 t),
    λ keeps. both.1 (keeps found n there),
  )

-- ---- a node
module _ (b : Limits) (image : ImageData) (plan : PlanData) (cells : List Cell) (node : NodeData) (points : List Point) (same : points ≡ node.points) where
  abbrev Keeps : Point → Type 0
  Keeps p = PointKeepsCellBounds b image plan cells p

  pub node_breaks : (i : ℕ) (point : Point) → AreAscendingPoints node.points → i < length points → point ≡ get_or points i point → All Keeps (take i points) → (Keeps point → ⊥) → IsFirstRule16NodeFault b image plan cells node point.addr
  node_breaks i point rising lt at before breaks = record {
    point = point;
    stands = subst (λ (l : List Point). Contains l point) same (i, lt, sym at);
    addr = refl;
    breaks = breaks;
    least = λ other. least_point Keeps node points same i point other rising lt at before;
  }

-- the first point of a walk that doesn't keep the cells
pub walked_breaks : (b : Limits) (image : ImageData) (plan : PlanData) (cells : List Cell) (node : NodeData) (done after : List Point) (point : Point) → AreAscendingPoints node.points → node.points ≡ done ++ point ∷ after
    → All (PointKeepsCellBounds b image plan cells) done → (PointKeepsCellBounds b image plan cells point → ⊥) → IsFirstRule16NodeFault b image plan cells node point.addr
walked_breaks b image plan cells node done after point rising split keep breaks =
    let m = met done after point in
    let all : List Point = done ++ point ∷ after in
    node_breaks b image plan cells node all (sym split) (length done) point rising m.0 m.1 (All-same (PointKeepsCellBounds b image plan cells) (take (length done) all) done m.2 keep) breaks

-- ---- a certificate
module _ (image : ImageData) (plan : PlanData) (cells : List Cell) (cert : CertData) (is_cert : IsCert cert) (nodes : List NodeData) (same : nodes ≡ cert.nodes) where
  abbrev KeepsAll : NodeData → Type 0
  KeepsAll n = All (PointKeepsCellBounds (limits_of_cert plan cert) image plan cells) n.points

  breaks_here : (node : NodeData) (p : ℕ) → Contains cert.nodes node → IsFirstRule16NodeFault (limits_of_cert plan cert) image plan cells node p → FailsRule16At image plan cells cert node.key p
  breaks_here node p member f = subst (FailsRule16At image plan cells cert node.key) f.addr (breaks_at node f.point member f.stands f.breaks)

  abbrev KeepsIn : NodeData → Point → Type 0
  KeepsIn n p = PointKeepsCellBounds (limits_of_cert plan cert) image plan cells p

  least_of_all : (i : ℕ) (node : NodeData) (p : ℕ) (j : Key) (x : ℕ) → i < length nodes → node ≡ get_or nodes i node → All KeepsAll (take i nodes) → IsFirstRule16NodeFault (limits_of_cert plan cert) image plan cells node p → p < 2 ^ 32
      → FailsRule16At image plan cells cert j x → rule_16_place_number node.key p ≤ rule_16_place_number j x
  least_of_all i node p _ _ lt at before f small (breaks_at other point member stands wrong) = least_place KeepsIn cert is_cert nodes same i node other p point lt at before f.least small member stands wrong

  pub first_breaks : (i : ℕ) (node : NodeData) (p : ℕ) → i < length nodes → node ≡ get_or nodes i node → All KeepsAll (take i nodes) → IsFirstRule16NodeFault (limits_of_cert plan cert) image plan cells node p → IsFirstRule16Fault image plan cells cert node.key p
  first_breaks i node p lt at before f =
      let member = in_cert KeepsIn cert is_cert nodes same i node lt at in
      let small = subst (λ n. n < 2 ^ 32) f.addr (address_small cert is_cert node f.point member f.stands) in
      record { breaks = breaks_here node p member f; least = λ j x wrong. least_of_all i node p j x lt at before f small wrong }

  pub all_keep : (i : ℕ) → length nodes ≤ i → All KeepsAll (take i nodes) → CertKeepsCellBounds image plan cells cert
  all_keep i past all node point member stands =
      let whole = all_done KeepsAll nodes i past all in
      All-contains (PointKeepsCellBounds (limits_of_cert plan cert) image plan cells) node.points point (All-contains KeepsAll nodes node whole (subst (λ (l : List NodeData). Contains l node) (sym same) member)) stands

-- no cell passes 2^32
pub cells_fit : (plan : PlanData) (cells : List Cell) → IsPlan plan → AreCells plan cells → All (λ (c : Cell). c.at + 4 ≤ 2 ^ 32) cells
cells_fit plan cells ok are i d lt = IsInOne-fits _ 4 plan.ram (ok.ranges).ram (are.each i d lt).in_ram
