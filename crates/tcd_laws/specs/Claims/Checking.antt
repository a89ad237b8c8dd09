-- What `check` and `report` claim of a certificate, and what it means that they refuse it.
use Rattle.std.specs.Prelude.{◌≡◌, ◌-◌, ℕ, List, [], ◌∷◌, codes}
use Rattle.tcd_base.specs.Files.{FileMap}
use Rattle.elf_image.specs.Images.{ImageData}
use Rattle.tcd_plan.specs.PlanData.{PlanData}
use Rattle.depth_cert.specs.declared.keys.Key.{Key}
use Rattle.depth_cert.specs.Certs.{CertData}
use Rattle.cfg_recover.specs.RulesHoldOrFail.{Accepts, certified_need}
use Rattle.tcd_report.specs.Reports.{IsReport}
use Rattle.tcd_reading.specs.declared.status.Status.TheVariants.{Done, Refused}
use Rattle.tcd_driver.specs.Tool.{ToolCall}
use Rattle.tcd_laws.specs.Claims.{EachCallClaims, PrintsText, FilesStay, HeldImage, HeldPlan, HeldCert, RunsMeetSafetyEquations, IsAcceptedWith, FailsFirstAt, certified_line, refused_line}

-- three files are an executable, a plan, and a certificate that the rules accept with this need,
-- and claims C1 to C4 hold with it
pub record AreCertified (before : FileMap) (elf_name plan_name cert_name : List ℕ) (image : ImageData) (plan : PlanData) (cert : CertData) (most : ℕ) : Type 0 where
  pub image_held : HeldImage before elf_name image
  pub plan_held : HeldPlan before plan_name plan
  pub cert_held : HeldCert before cert_name cert
  pub accepted : IsAcceptedWith image plan cert most
  pub safe : RunsMeetSafetyEquations image plan most

-- `check` is done: it prints the need, and nothing is written
pub record CheckClaims (elf_name plan_name cert_name : List ℕ) (call : ToolCall) (before : FileMap) : Type 0 where
  pub image : ImageData
  pub plan : PlanData
  pub cert : CertData
  pub most : ℕ
  pub certified : AreCertified before elf_name plan_name cert_name image plan cert most
  pub prints : PrintsText call (certified_line most (plan.areas - plan.reserve))
  pub stays : FilesStay call before

-- `report` is done: it prints the report of the certificate, a JSON object with the need, and
-- nothing is written
pub record ReportClaims (elf_name plan_name cert_name : List ℕ) (call : ToolCall) (before : FileMap) : Type 0 where
  pub image : ImageData
  pub plan : PlanData
  pub cert : CertData
  pub most : ℕ
  pub certified : AreCertified before elf_name plan_name cert_name image plan cert most
  pub text : List ℕ
  pub told : certified_need image plan cert ≡ most
  pub report : IsReport image plan cert text
  pub prints : PrintsText call text
  pub stays : FilesStay call before

-- `check` or `report` refuses: the certificate isn't accepted, the printed rule is the first that
-- fails, and nothing is written
pub record CheckRefuses (elf_name plan_name cert_name : List ℕ) (call : ToolCall) (before : FileMap) : Type 0 where
  pub image : ImageData
  pub plan : PlanData
  pub cert : CertData
  pub rule : ℕ
  pub frame : Key
  pub address : ℕ
  pub image_held : HeldImage before elf_name image
  pub plan_held : HeldPlan before plan_name plan
  pub cert_held : HeldCert before cert_name cert
  pub unaccepted : Accepts image plan cert → ⊥
  pub first : FailsFirstAt image plan cert rule frame address
  pub prints : PrintsText call (refused_line rule frame address)
  pub stays : FilesStay call before

-- ---- the laws
-- claims C1 to C4 of each `check` with status 0
abbrev pub CheckClaimsHold : Type 0
CheckClaimsHold = (elf plan cert : List ℕ) → EachCallClaims (codes "check" ∷ elf ∷ plan ∷ cert ∷ []) Done (CheckClaims elf plan cert)

-- what each `check` with status 1 says
abbrev pub CheckRefusalsHold : Type 0
CheckRefusalsHold = (elf plan cert : List ℕ) → EachCallClaims (codes "check" ∷ elf ∷ plan ∷ cert ∷ []) Refused (CheckRefuses elf plan cert)

-- claims C1 to C4 of each `report` with status 0
abbrev pub ReportClaimsHold : Type 0
ReportClaimsHold = (elf plan cert : List ℕ) → EachCallClaims (codes "report" ∷ elf ∷ plan ∷ cert ∷ []) Done (ReportClaims elf plan cert)

-- what each `report` with status 1 says
abbrev pub ReportRefusalsHold : Type 0
ReportRefusalsHold = (elf plan cert : List ℕ) → EachCallClaims (codes "report" ∷ elf ∷ plan ∷ cert ∷ []) Refused (CheckRefuses elf plan cert)
