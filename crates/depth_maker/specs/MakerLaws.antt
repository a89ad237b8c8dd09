-- What holds of all derived assignments, and of accepted certificates.
use Rattle.std.specs.Prelude.{◌<◌, ◌≤◌, ◌-◌, ◌^◌, ℕ, IsSome, Contains, ◌≡◌, Some}
use Rattle.elf_image.specs.Images.{ImageData}
use Rattle.tcd_plan.specs.PlanData.{PlanData}
use Rattle.value_domain.specs.Limits.{Limits}
use Rattle.depth_cert.specs.declared.keys.Key.{Key}
use Rattle.depth_cert.specs.Points.{find_point}
use Rattle.depth_cert.specs.Nodes.{NodeData, need_or_zero, find_node}
use Rattle.depth_cert.specs.Certs.{CertData, IsCert}
use Rattle.cfg_recover.specs.Entries.{start_key, start_state}
use Rattle.cfg_recover.specs.RulesHoldOrFail.{Accepts, limits_of_cert}
use Rattle.cfg_recover.specs.Assignments.{Assignment, Closed, Derived, IsAssignmentBelow, assignment_of_cert, ArePointsFaultless}
use Rattle.cfg_recover.specs.CertRefusals.{IsRefusalFault, IsRefusalWithLimits, IsPastCertLimits, AreSufficientNeeds, IsRefusal}
use Rattle.depth_maker.specs.DutiesMonotone.{AreMakerInputs, IsOwedBelow}
use Rattle.depth_maker.specs.WellFormedAssignments.{AllWellFormed, IsWellFormedDuty}
use Rattle.tc_isa.specs.declared.shapes.Shape.{Shape}
use Rattle.value_domain.specs.declared.states.State.{State}
use Rattle.value_domain.specs.State.{Covers}
use Rattle.depth_cert.specs.declared.points.Exit.{Exit}
use Rattle.cfg_recover.specs.Code.{IsCode}
use Rattle.depth_cert.specs.Exits.{state_after_return, ExitCovers}
use Rattle.cfg_recover.specs.LocalFaults.{IsFaultless}
use Rattle.cfg_recover.specs.Duties.{Owed, duties_of}
use Rattle.depth_cert.specs.Known.{Known, CoversKnown, joined_known}
use Rattle.depth_cert.specs.WellFormed.{IsWellFormedState, IsWellFormedExit, IsWellFormedKnown}
use Rattle.depth_maker.specs.declared.answering.MakeErr.TheVariants.{Refused}
use Rattle.depth_maker.specs.Answers.{IsRightMakeErr, IsNoCertAccepted}
use Rattle.value_domain.specs.VersionLimits.{limits_for}
use Rattle.depth_maker.specs.LeastCertMade.{IsLeastCert, IsLeastFixpointCert, IsLeastAcceptedCert}

-- law of the maker: every derived assignment is below every closed one without faults of its own
abbrev pub DerivedIsBelowClosed : Type 0
DerivedIsBelowClosed =
    (b : Limits) (image : ImageData) (plan : PlanData) (c a : Assignment) → AreMakerInputs b image plan → Closed b image plan c → ArePointsFaultless b image plan c → AllWellFormed b c
    → Derived b image plan a → IsAssignmentBelow a c

-- law of the maker: if there is a closed assignment within the limits without faults of its own, no
-- derived one has a fault
abbrev pub ClosedExcludesFaults : Type 0
ClosedExcludesFaults =
    (b : Limits) (image : ImageData) (plan : PlanData) (c : Assignment) (r : ℕ) (k : Key) (p : ℕ) → AreMakerInputs b image plan → Closed b image plan c → ArePointsFaultless b image plan c → AllWellFormed b c
    → (IsPastCertLimits c → ⊥) → IsRefusalFault b image plan r k p → ⊥

-- a solution, as the maker's laws call it, such as an accepted certificate: a closed assignment
-- within the limits, without faults of its own, and needs that are met
pub record IsMakerSolution (b : Limits) (image : ImageData) (plan : PlanData) (a : Assignment) (need : Key → ℕ) : Type 0 where
  pub closed : Closed b image plan a
  pub faultless : ArePointsFaultless b image plan a
  pub well_formed : AllWellFormed b a
  pub within : IsPastCertLimits a → ⊥
  pub needs : AreSufficientNeeds b image plan a need
  pub start : need (start_key image plan) ≤ plan.areas - plan.reserve

-- law of the maker: each accepted certificate is a closed assignment without faults, whose needs
-- are met
abbrev pub AcceptedIsClosed : Type 0
AcceptedIsClosed =
    (image : ImageData) (plan : PlanData) (cert : CertData) → AreMakerInputs (limits_of_cert plan cert) image plan → image.entry < 2 ^ 32 → IsCert cert → Accepts image plan cert
    → IsMakerSolution (limits_of_cert plan cert) image plan (assignment_of_cert cert) (λ k. need_or_zero (find_node k cert.nodes))

-- law of the maker: if a certificate is accepted, no refusal of the maker holds
abbrev pub AcceptedExcludesRefusals : Type 0
AcceptedExcludesRefusals =
    (image : ImageData) (plan : PlanData) (cert : CertData) (r : ℕ) (k : Key) (p : ℕ) → AreMakerInputs (limits_of_cert plan cert) image plan → image.entry < 2 ^ 32 → IsCert cert → Accepts image plan cert
    → IsRefusalWithLimits (limits_of_cert plan cert) image plan r k p → ⊥

-- law of the maker: a certificate of a maker's solution, whose nodes have their entry points, is
-- accepted
abbrev pub SolutionIsAccepted : Type 0
SolutionIsAccepted =
    (image : ImageData) (plan : PlanData) (cert : CertData) → AreMakerInputs (limits_of_cert plan cert) image plan → image.entry < 2 ^ 32 → IsCert cert
    → IsMakerSolution (limits_of_cert plan cert) image plan (assignment_of_cert cert) (λ k. need_or_zero (find_node k cert.nodes))
    → ((n : NodeData) → Contains cert.nodes n → IsSome (find_point (n.key).entry n.points)) → Accepts image plan cert

-- the laws of the maker: covering is transitive, joins are least upper bounds, and duties are
-- monotone in the state
pub record AreMakerLaws (b : Limits) (image : ImageData) (plan : PlanData) : Type 0 where
  pub covers_same : (v : Known) → CoversKnown v v
  pub covers_through : (v w u : Known) → IsWellFormedKnown b v → IsWellFormedKnown b w → CoversKnown u w → CoversKnown w v → CoversKnown u v
  pub joined_above : (v w u : Known) → IsWellFormedKnown b v → IsWellFormedKnown b w → joined_known b v w ≡ Some u → CoversKnown u v × CoversKnown u w
  pub joined_well_formed : (v w u : Known) → IsWellFormedKnown b v → IsWellFormedKnown b w → joined_known b v w ≡ Some u → IsWellFormedKnown b u
  pub joined_least :
      (v w d : Known) → IsWellFormedKnown b v → IsWellFormedKnown b w → IsWellFormedKnown b d → CoversKnown d v → CoversKnown d w
      → (u : Known) × (joined_known b v w ≡ Some u) × CoversKnown d u
  pub start_well_formed : IsWellFormedState b (start_state plan)
  pub faults_fall : (key : Key) (p : ℕ) (s t : State) → IsWellFormedState b s → IsWellFormedState b t → Covers t s → IsFaultless b image plan key p t → IsFaultless b image plan key p s
  pub duties_grow :
      (key : Key) (p : ℕ) (s t : State) (shape : Shape) (n : ℕ) (d : Owed) → IsWellFormedState b s → IsWellFormedState b t → Covers t s → IsFaultless b image plan key p t
      → IsCode image plan p shape n → Contains (duties_of b image plan key p s shape n) d
      → (e : Owed) × Contains (duties_of b image plan key p t shape n) e × IsOwedBelow d e
  pub duties_well_formed :
      (key : Key) (p : ℕ) (s : State) (shape : Shape) (n : ℕ) (d : Owed) → IsWellFormedState b s → IsFaultless b image plan key p s
      → IsCode image plan p shape n → Contains (duties_of b image plan key p s shape n) d → IsWellFormedDuty b d.duty
  pub after_grows :
      (s t : State) (x y : Exit) (kind : ℕ) → IsWellFormedState b s → IsWellFormedState b t → IsWellFormedExit b x → IsWellFormedExit b y → Covers t s → ExitCovers y x
      → Covers (state_after_return t y kind) (state_after_return s x kind)
  pub after_well_formed : (s : State) (x : Exit) (kind : ℕ) → IsWellFormedState b s → IsWellFormedExit b x → IsWellFormedState b (state_after_return s x kind)

-- law of the maker: if the maker refuses at a place, the rules accept no certificate of the format
abbrev pub MakeErrExcludesCerts : Type 0
MakeErrExcludesCerts =
    (image : ImageData) (plan : PlanData) (version rule : ℕ) (key : Key) (addr : ℕ) (cert : CertData) → IsRightMakeErr image plan version (Refused rule key addr)
    → IsCert cert → cert.version ≡ version → Accepts image plan cert → ⊥

-- law of the maker: the certificate of a least fixpoint (a derived closed assignment without
-- faults), with the least needs, is the least certificate
abbrev pub LeastFixpointIsLeastCert : Type 0
LeastFixpointIsLeastCert =
    (image : ImageData) (plan : PlanData) (version : ℕ) (cert : CertData) → AreMakerInputs (limits_for plan version) image plan → image.entry < 2 ^ 32
    → IsLeastFixpointCert image plan version cert → IsLeastCert image plan version cert

-- law of the maker: a refusal by a rule at a place implies that no certificate of the format is
-- accepted
abbrev pub RefusalMeansNoCertAccepted : Type 0
RefusalMeansNoCertAccepted =
    (image : ImageData) (plan : PlanData) (version r : ℕ) (k : Key) (p : ℕ) → AreMakerInputs (limits_for plan version) image plan → image.entry < 2 ^ 32
    → IsRefusal image plan version r k p → IsNoCertAccepted image plan version

-- law of the maker: the least certificate of a format is a least accepted one
abbrev pub LeastCertIsLeastAccepted : Type 0
LeastCertIsLeastAccepted = (image : ImageData) (plan : PlanData) (version : ℕ) (cert : CertData) → IsLeastCert image plan version cert → IsLeastAcceptedCert image plan version cert
