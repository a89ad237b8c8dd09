-- The faults of K17 grow with what is known.
use Rattle.std.proofs.Common.{◌≡◌, ℕ, sym, subst}
use Rattle.std.specs.Prelude.{All, Contains}
use Rattle.std.proofs.lemmas.List.Elements.{All-contains}
use Rattle.elf_image.specs.Images.{ImageData}
use Rattle.tcd_plan.specs.PlanData.{PlanData, IsPlan}
use Rattle.tc_isa.specs.declared.shapes.Shape.{Shape}
use Rattle.tc_isa.specs.declared.shapes.Shape.TheVariants.{Load}
use Rattle.tc_isa.specs.InBounds.{IsShapeInBounds}
use Rattle.value_domain.specs.declared.states.State.{State}
use Rattle.value_domain.specs.Limits.{Limits}
use Rattle.value_domain.specs.State.{Covers}
use Rattle.vd_transfer.specs.EffectsOnStates.{address_of_access}
use Rattle.vd_transfer.specs.Soundness.{MeetSoundnessPremises}
use Rattle.depth_cert.specs.declared.keys.Key.{Key}
use Rattle.depth_cert.specs.declared.points.Point.{Point}
use Rattle.depth_cert.specs.Nodes.{NodeData}
use Rattle.depth_cert.specs.Certs.{CertData, IsCert}
use Rattle.cfg_recover.specs.Code.{IsCode}
use Rattle.cfg_recover.specs.RulesHoldOrFail.{limits_of_cert, Accepts}
use Rattle.cfg_recover.specs.Assignments.{assignment_of_cert, IsAssignmentBelow}
use Rattle.cfg_recover.proofs.CodeLaws.{IsCode-bounded}
use Rattle.task_chains.specs.Tasks.{TasksData}
use Rattle.task_chains.specs.Rule17.{LoadMissesAreasAndRoutine, KeepsRule17ByShape, KeepsRule17AtCertPoint, BreaksRule17, at_point}
use Rattle.task_chains.specs.Rule17Growth.{Rule17FaultsAreMonotone, BrokenRule17IsNotKept}
use Rattle.cfg_recover.proofs.AccessGrowth.{access_grows}
use Rattle.cfg_recover.proofs.KnownPlaces.{above, limits_same, setting}

-- ---- a load from a smaller state
module _ (b : Limits) (p : PlanData) (s t : State) (low : MeetSoundnessPremises b p s) (high : MeetSoundnessPremises b p t) (c : Covers t s) where
  -- if a load misses the areas and the routine from a state, it does from each smaller one
  loads_shrink : (tasks : TasksData) (shape : Shape) → IsShapeInBounds shape → LoadMissesAreasAndRoutine b p tasks t shape → LoadMissesAreasAndRoutine b p tasks s shape
  unfolding address_of_access
  loads_shrink tasks (Load dst base offset size signed after) is h =
      let below = access_grows b p s t low high c base offset after is.1 is.2 in
      ((λ x m. h.0 x (below x m)), (λ x m. h.1 x (below x m)))
  loads_shrink tasks _ is h = h

  apart_shrinks : (tasks : TasksData) (key : Key) (at : ℕ) (shape : Shape) → IsShapeInBounds shape → KeepsRule17ByShape b p tasks key at t shape → KeepsRule17ByShape b p tasks key at s shape
  apart_shrinks tasks key at shape is h = record { inside = h.inside; at = h.at; loads = loads_shrink tasks shape is h.loads; links = h.links; level = h.level }

-- ---- the law
module _ (view : ImageData) (plan : PlanData) (tasks : TasksData) (lower upper : CertData) (ok : IsPlan plan) (low_cert : IsCert lower) (up_cert : IsCert upper) (same : lower.version ≡ upper.version)
    (low_ok : Accepts view plan lower) (up_ok : Accepts view plan upper) where
  holds_below : (node other : NodeData) (q z : Point) → Contains lower.nodes node → Contains node.points q → Contains upper.nodes other → Contains other.points z → other.key ≡ node.key → z.addr ≡ q.addr → Covers z.state q.state
      → KeepsRule17AtCertPoint view plan tasks upper other z → KeepsRule17AtCertPoint view plan tasks lower node q
  holds_below node other q z has stands up_has up_stands key at covers holds shape n code =
      let is = IsCode-bounded view plan q.addr shape n code in
      let high = subst (λ (b : Limits). MeetSoundnessPremises b plan z.state) (limits_same plan lower upper same) (setting view plan upper ok up_cert up_ok other z up_has up_stands) in
      let there = holds shape n (subst (λ x. IsCode view plan x shape n) (sym at) code) in
      let limited = subst (λ (b : Limits). KeepsRule17ByShape b plan tasks other.key z.addr z.state shape) (limits_same plan lower upper same) there in
      let moved = subst (λ x. KeepsRule17ByShape (limits_of_cert plan lower) plan tasks other.key x z.state shape) at limited in
      let keyed = subst (λ (k : Key). KeepsRule17ByShape (limits_of_cert plan lower) plan tasks k q.addr z.state shape) key moved in
      apart_shrinks (limits_of_cert plan lower) plan q.state z.state (setting view plan lower ok low_cert low_ok node q has stands) high covers tasks node.key q.addr shape is keyed

  fails_above : IsAssignmentBelow (assignment_of_cert lower) (assignment_of_cert upper) → (k : Key) (p : ℕ) → BreaksRule17 view plan tasks lower k p → BreaksRule17 view plan tasks upper k p
  fails_above below _ _ (at_point node q has stands wrong) =
      let a = above lower upper low_cert below node q has stands in
      let up : BreaksRule17 view plan tasks upper (a.node).key (a.place).addr = at_point a.node a.place a.member a.stands (λ holds. wrong (holds_below node a.node q a.place has stands a.member a.stands a.key a.addr a.covers holds)) in
      subst (λ x. BreaksRule17 view plan tasks upper node.key x) a.addr (subst (λ (k : Key). BreaksRule17 view plan tasks upper k (a.place).addr) a.key up)

pub task_faults_grow : Rule17FaultsAreMonotone
task_faults_grow view plan tasks lower upper k p ok low_cert up_cert same low_ok up_ok below fails = fails_above view plan tasks lower upper ok low_cert up_cert same low_ok up_ok below k p fails

pub task_faults_refute : BrokenRule17IsNotKept
task_faults_refute view plan tasks cert _ _ (at_point node q has stands wrong) keeps =
    wrong (All-contains (λ z. KeepsRule17AtCertPoint view plan tasks cert node z) node.points q (All-contains (λ (n : NodeData). All (λ z. KeepsRule17AtCertPoint view plan tasks cert n z) n.points) cert.nodes node keeps has) stands)
