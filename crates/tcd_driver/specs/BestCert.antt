-- The certificate that is made for an image and a plan, and why there is none.
use Rattle.std.specs.Prelude.{◌≡◌, ℕ, ◌≤◌, Result, Ok, Err}
use Rattle.elf_image.specs.Images.{ImageData}
use Rattle.tcd_plan.specs.PlanData.{PlanData}
use Rattle.tc_machine.specs.Safe.{Safe}
use Rattle.depth_cert.specs.declared.keys.Key.{Key}
use Rattle.depth_cert.specs.Certs.{CertData, IsCert}
use Rattle.cfg_recover.specs.RulesHoldOrFail.{Accepts, certified_need}
use Rattle.cfg_recover.specs.CertRefusals.{IsRefusal}
use Rattle.depth_maker.specs.LeastCertMade.{IsLeastCert, need_in_cert}
use Rattle.depth_maker.specs.Answers.{IsNoCertAccepted, IsRightMakeErr}
use Rattle.depth_maker.specs.declared.answering.MakeErr.{MakeErr}
use Rattle.depth_maker.specs.declared.answering.MakeErr.TheVariants as make_err
use Rattle.tcd_reading.specs.Reports.{Report, text_report}
use Rattle.tcd_reading.specs.declared.status.Status.TheVariants.{Refused}
use Rattle.tcd_forms.specs.Lines.{refused_line}
use Rattle.cfg_recover.specs.Assignments.{IsAssignmentBelow, assignment_of_cert}

-- the best certificate: the least of format 1, or the least of format 2 if none of format 1 is
-- accepted
pub data IsBestCert (image : ImageData) (plan : PlanData) (cert : CertData) : Type 0 where
  first : IsLeastCert image plan 1 cert → IsBestCert image plan cert
  second : IsNoCertAccepted image plan 1 → IsLeastCert image plan 2 cert → IsBestCert image plan cert

-- the best certificate for an image and a plan, of format 1 or 2: it is accepted, so that every run
-- is safe with its need
pub record IsAcceptedBestCert (image : ImageData) (plan : PlanData) (cert : CertData) : Type 0 where
  pub is_cert : IsCert cert
  pub best : IsBestCert image plan cert
  pub accepted : Accepts image plan cert
  pub safe : Safe image plan (certified_need image plan cert)

-- no certificate of either format is accepted, and none of format 2 is since this rule fails, in
-- this frame at this address
pub record HasNoAcceptedCert (image : ImageData) (plan : PlanData) (rule : ℕ) (key : Key) (addr : ℕ) : Type 0 where
  pub first : IsNoCertAccepted image plan 1
  pub second : IsNoCertAccepted image plan 2
  pub why : IsRefusal image plan 2 rule key addr

-- the best certificate is the least of its format: no accepted one of that format states a lesser
-- need of a frame, or less of what is known at a point
pub record IsLeastOfItsFormat (image : ImageData) (plan : PlanData) (cert : CertData) : Type 0 where
  pub is_cert : IsCert cert
  pub needs : (other : CertData) (frame : Key) → IsCert other → other.version ≡ cert.version → Accepts image plan other → need_in_cert cert frame ≤ need_in_cert other frame
  pub states : (other : CertData) → IsCert other → other.version ≡ cert.version → Accepts image plan other → IsAssignmentBelow (assignment_of_cert cert) (assignment_of_cert other)

-- in the headlines where `cert`, `cfg` and `ship` refuse: no certificate is accepted, and this is
-- why none of format 2 is
pub record NoCertIsAccepted (image : ImageData) (plan : PlanData) (rule : ℕ) (frame : Key) (address : ℕ) : Type 0 where
  pub each : (cert : CertData) → IsCert cert → Accepts image plan cert → ⊥
  pub why : IsRefusal image plan 2 rule frame address

-- ---- by the values in the code
-- this certificate is the least of its format, and every run is safe with this need, that of its
-- start
pub record IsLeastWithNeed (image : ImageData) (plan : PlanData) (version : ℕ) (cert : CertData) (need : ℕ) : Type 0 where
  pub is_cert : IsCert cert
  pub made : IsLeastCert image plan version cert
  pub safe : Safe image plan need
  pub need_is : need ≡ certified_need image plan cert

-- the result of making a format's least certificate: that, with its need, or a right error
abbrev pub IsLeastCertOrErr : ImageData → PlanData → ℕ → Result (CertData × ℕ) MakeErr → Type 0
IsLeastCertOrErr image plan version (Ok made) = IsLeastWithNeed image plan version made.0 made.1
IsLeastCertOrErr image plan version (Err e) = IsRightMakeErr image plan version e

-- the result of making the best certificate: that, with its need, or why none of format 2 is
-- accepted
abbrev pub IsBestCertOrErr : ImageData → PlanData → Result (CertData × ℕ) MakeErr → Type 0
IsBestCertOrErr image plan (Ok made) = IsAcceptedBestCert image plan made.0 × (made.1 ≡ certified_need image plan made.0)
IsBestCertOrErr image plan (Err (make_err.Refused rule key addr)) = HasNoAcceptedCert image plan rule key addr
IsBestCertOrErr image plan (Err make_err.NoMemory) = Unit {0}

-- a command's report that no certificate is made: the rule that fails, with its address and frame
abbrev pub IsNoCertReport : MakeErr → Report → Type 0
IsNoCertReport (make_err.Refused rule key addr) report = report ≡ text_report Refused (refused_line rule key addr)
IsNoCertReport make_err.NoMemory report = ⊥
