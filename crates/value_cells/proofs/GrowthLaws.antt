-- The faults of K16 grow with what is known.
use Rattle.std.proofs.Common.{◌≡◌, ℕ, List, refl, sym, subst}
use Rattle.std.specs.Prelude.{Contains}
use Rattle.elf_image.specs.Images.{ImageData}
use Rattle.tcd_plan.specs.PlanData.{PlanData, IsPlan}
use Rattle.tc_isa.specs.declared.shapes.Shape.{Shape}
use Rattle.tc_isa.specs.declared.shapes.Shape.TheVariants.{Store}
use Rattle.tc_isa.specs.InBounds.{IsShapeInBounds}
use Rattle.value_domain.specs.declared.states.State.{State}
use Rattle.value_domain.specs.Limits.{Limits}
use Rattle.value_domain.specs.State.{Covers}
use Rattle.vd_transfer.specs.Registers.{register_slot}
use Rattle.vd_transfer.specs.EffectsOnStates.{address_of_access}
use Rattle.vd_transfer.specs.Soundness.{MeetSoundnessPremises}
use Rattle.depth_cert.specs.declared.keys.Key.{Key}
use Rattle.depth_cert.specs.declared.points.Point.{Point}
use Rattle.depth_cert.specs.Nodes.{NodeData}
use Rattle.depth_cert.specs.Certs.{CertData, IsCert}
use Rattle.cfg_recover.specs.Code.{IsCode}
use Rattle.cfg_recover.specs.RulesHoldOrFail.{limits_of_cert, Accepts}
use Rattle.cfg_recover.specs.Assignments.{assignment_of_cert, IsAssignmentBelow}
use Rattle.cfg_recover.proofs.CodeLaws.{IsCode-bounded}
use Rattle.value_cells.specs.declared.cells.Cell.{Cell}
use Rattle.value_cells.specs.Keeping.{InstructionKeepsCellBounds, PointKeepsCellBounds, CertKeepsCellBounds, FailsRule16At, breaks_at}
use Rattle.value_cells.specs.Rule16Growth.{CellFaultsAreMonotone, LesserCertKeepsCellBounds}
use Rattle.value_cells.specs.Laws.{CellFaultBreaksRule16}
use Rattle.cfg_recover.proofs.AccessGrowth.{value_grows, access_grows}
use Rattle.cfg_recover.proofs.KnownPlaces.{Above, above, limits_same, setting}

-- ---- a store from a smaller state
module _ (b : Limits) (p : PlanData) (s t : State) (low : MeetSoundnessPremises b p s) (high : MeetSoundnessPremises b p t) (c : Covers t s) where
  -- a store that keeps the cells does so from the smaller state
  keeps_shrinks : (cells : List Cell) (shape : Shape) → IsShapeInBounds shape → InstructionKeepsCellBounds b p cells t shape → InstructionKeepsCellBounds b p cells s shape
  unfolding address_of_access
  keeps_shrinks cells (Store src base offset size after) is h =
      λ x m i d lt touches.
      let kept = h x (access_grows b p s t low high c base offset after is.1 is.2 x m) i d lt touches in
      record { word = kept.word; at = kept.at; bounds = λ w in_it. kept.bounds w (value_grows b p s t low high c src (register_slot src) refl w in_it) }
  keeps_shrinks cells _ is h = h

-- ---- the law
module _ (image : ImageData) (plan : PlanData) (cells : List Cell) (lower upper : CertData) (ok : IsPlan plan) (low_cert : IsCert lower) (up_cert : IsCert upper) (same : lower.version ≡ upper.version)
    (low_ok : Accepts image plan lower) (up_ok : Accepts image plan upper) (below : IsAssignmentBelow (assignment_of_cert lower) (assignment_of_cert upper)) where
  -- if a point keeps the cells, each point that it covers does
  keeps_below : (node : NodeData) (q : Point) → Contains lower.nodes node → Contains node.points q → (a : Above upper node.key q) → PointKeepsCellBounds (limits_of_cert plan upper) image plan cells a.place
      → PointKeepsCellBounds (limits_of_cert plan lower) image plan cells q
  keeps_below node q has stands a keeps shape n code =
      let high = subst (λ (b : Limits). MeetSoundnessPremises b plan (a.place).state) (limits_same plan lower upper same) (setting image plan upper ok up_cert up_ok a.node a.place a.member a.stands) in
      let there = keeps shape n (subst (λ x. IsCode image plan x shape n) (sym a.addr) code) in
      let limited = subst (λ (b : Limits). InstructionKeepsCellBounds b plan cells (a.place).state shape) (limits_same plan lower upper same) there in
      keeps_shrinks (limits_of_cert plan lower) plan q.state (a.place).state (setting image plan lower ok low_cert low_ok node q has stands) high a.covers cells shape (IsCode-bounded image plan q.addr shape n code) limited

  all_below : CertKeepsCellBounds image plan cells upper → CertKeepsCellBounds image plan cells lower
  all_below keeps node q has stands =
      let a = above lower upper low_cert below node q has stands in
      keeps_below node q has stands a (keeps a.node a.place a.member a.stands)

  breaks_above : (k : Key) (p : ℕ) → FailsRule16At image plan cells lower k p → FailsRule16At image plan cells upper k p
  breaks_above _ _ (breaks_at node q has stands wrong) =
      let a = above lower upper low_cert below node q has stands in
      let up : FailsRule16At image plan cells upper (a.node).key (a.place).addr = breaks_at a.node a.place a.member a.stands (λ keeps. wrong (keeps_below node q has stands a keeps)) in
      subst (λ x. FailsRule16At image plan cells upper node.key x) a.addr (subst (λ (k : Key). FailsRule16At image plan cells upper k (a.place).addr) a.key up)

pub cell_faults_grow : CellFaultsAreMonotone
cell_faults_grow image plan cells lower upper k p ok low_cert up_cert same low_ok up_ok below breaks = breaks_above image plan cells lower upper ok low_cert up_cert same low_ok up_ok below k p breaks

pub lesser_keeps_cells : LesserCertKeepsCellBounds
lesser_keeps_cells image plan cells lower upper ok low_cert up_cert same low_ok up_ok below keeps = all_below image plan cells lower upper ok low_cert up_cert same low_ok up_ok below keeps

pub cell_faults_refute : CellFaultBreaksRule16
cell_faults_refute image plan cells cert _ _ (breaks_at node q has stands wrong) keeps = wrong (keeps node q has stands)
