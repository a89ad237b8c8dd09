-- What the maker makes: the certificate of the least assignment with the least needs, or why there
-- is none.
use Rattle.std.specs.Prelude.{◌≡◌, ◌≤◌, ◌-◌, ℕ, IsSome, Some, Contains, find, List}
use Rattle.elf_image.specs.Images.{ImageData}
use Rattle.tcd_plan.specs.PlanData.{PlanData}
use Rattle.value_domain.specs.declared.states.State.{State}
use Rattle.value_domain.specs.State.{Covers}
use Rattle.value_domain.specs.VersionLimits.{limits_for}
use Rattle.depth_cert.specs.declared.keys.Key.{Key}
use Rattle.depth_cert.specs.declared.points.Exit.{Exit}
use Rattle.depth_cert.specs.Exits.{ExitCovers}
use Rattle.depth_cert.specs.Known.{state, leaving}
use Rattle.depth_cert.specs.Points.{find_point}
use Rattle.depth_cert.specs.Nodes.{NodeData, need_or_zero}
use Rattle.depth_cert.specs.Certs.{CertData, IsCert}
use Rattle.cfg_recover.specs.Entries.{start_key}
use Rattle.cfg_recover.specs.RulesHoldOrFail.{Accepts}
use Rattle.depth_cert.specs.Keys.{is_same_key}
use Rattle.cfg_recover.specs.Assignments.{Derived, Closed, IsAssignmentBelow, assignment_of_cert, point, exit, ArePointsFaultless, Assignment}
use Rattle.cfg_recover.specs.CertRefusals.{IsLeastAssignment, AreSufficientNeeds}
use Rattle.depth_cert.specs.Spelling.{bytes_of_cert}
use Rattle.value_domain.specs.Limits.{Limits}

-- the need that a certificate states for a frame, the least in the least certificate; 0 for a frame
-- without a node
abbrev pub need_in_cert : CertData → Key → ℕ
need_in_cert cert k = need_or_zero (find (λ n. is_same_key n.key k) cert.nodes)

-- the least certificate is no worse than another one: the other covers what it says, and has no
-- lesser need of a frame
pub record IsNoWorse (image : ImageData) (plan : PlanData) (cert other : CertData) : Type 0 where
  pub below : IsAssignmentBelow (assignment_of_cert cert) (assignment_of_cert other)
  pub needs : (k : Key) → need_in_cert cert k ≤ need_in_cert other k

-- these needs of frames meet the needs of an assignment, and are the least numbers of areas that do
pub record AreLeastNeeds (b : Limits) (image : ImageData) (plan : PlanData) (a : Assignment) (need : Key → ℕ) : Type 0 where
  pub meets : AreSufficientNeeds b image plan a need
  pub least : (other : Key → ℕ) → AreSufficientNeeds b image plan a other → (k : Key) → need k ≤ other k

-- the certificate is the least of its format: accepted, with the least assignment and the least
-- needs
pub record IsLeastCert (image : ImageData) (plan : PlanData) (version : ℕ) (cert : CertData) : Type 0 where
  pub of_version : cert.version ≡ version
  pub accepted : Accepts image plan cert
  pub least : IsLeastAssignment (limits_for plan version) image plan (assignment_of_cert cert)
  pub needs : AreLeastNeeds (limits_for plan version) image plan (assignment_of_cert cert) (need_in_cert cert)
  pub best : (other : CertData) → IsCert other → other.version ≡ version → Accepts image plan other → IsNoWorse image plan cert other

-- a made certificate is the least: it is accepted, and each accepted one of its format covers its
-- points and exits and has no lesser need of a frame
pub record IsLeastAcceptedCert (image : ImageData) (plan : PlanData) (version : ℕ) (cert : CertData) : Type 0 where
  pub its_version : cert.version ≡ version
  pub accepts : Accepts image plan cert
  pub frames :
      (other : CertData) (k : Key) → IsCert other → other.version ≡ version → Accepts image plan other
      → need_or_zero (find (λ n. is_same_key n.key k) cert.nodes) ≤ need_or_zero (find (λ n. is_same_key n.key k) other.nodes)
  pub points :
      (other : CertData) (k : Key) (p : ℕ) (s : State) → IsCert other → other.version ≡ version → Accepts image plan other
      → assignment_of_cert cert (point k p) ≡ Some (state s) → (t : State) × (assignment_of_cert other (point k p) ≡ Some (state t)) × Covers t s
  pub exits :
      (other : CertData) (k : Key) (x : Exit) → IsCert other → other.version ≡ version → Accepts image plan other
      → assignment_of_cert cert (exit k) ≡ Some (leaving x) → (y : Exit) × (assignment_of_cert other (exit k) ≡ Some (leaving y)) × ExitCovers y x

-- the certificate of the maker's least fixpoint: derived, closed, without faults, with the least
-- needs, the start's within the areas
pub record IsLeastFixpointCert (image : ImageData) (plan : PlanData) (version : ℕ) (cert : CertData) : Type 0 where
  pub is_cert : IsCert cert
  pub of_version : cert.version ≡ version
  pub entries : (n : NodeData) → Contains cert.nodes n → IsSome (find_point (n.key).entry n.points)
  pub derived : Derived (limits_for plan version) image plan (assignment_of_cert cert)
  pub closed : Closed (limits_for plan version) image plan (assignment_of_cert cert)
  pub faultless : ArePointsFaultless (limits_for plan version) image plan (assignment_of_cert cert)
  pub needs : AreLeastNeeds (limits_for plan version) image plan (assignment_of_cert cert) (need_in_cert cert)
  pub start : need_in_cert cert (start_key image plan) ≤ plan.areas - plan.reserve

-- the bytes spell the least certificate of this format
pub record AreLeastCertBytes (image : ImageData) (plan : PlanData) (version : ℕ) (bytes : List ℕ) : Type 0 where
  pub cert : CertData
  pub spell : bytes ≡ bytes_of_cert cert
  pub is_cert : IsCert cert
  pub made : IsLeastCert image plan version cert
