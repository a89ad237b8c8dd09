-- What `taskcert` reads, prints and writes.
use Rattle.std.specs.Prelude.{◌≡◌, ◌-◌, ◌<◌, ◌≤◌, ℕ, List, ◌∷◌, length, [], Result, Ok, Err}
use Rattle.std.specs.declared.vec.Vec.{Vec}
use Rattle.std.specs.declared.alloc.Global.{Global}
use Rattle.elf_image.specs.Images.{ImageData}
use Rattle.tcd_plan.specs.PlanData.{PlanData}
use Rattle.depth_cert.specs.Certs.{CertData, IsCert}
use Rattle.depth_cert.specs.Spelling.{bytes_of_cert}
use Rattle.depth_cert.specs.declared.keys.Key.{Key}
use Rattle.cfg_recover.specs.RulesHoldOrFail.{Accepts, certified_need}
use Rattle.cfg_recover.specs.CertRefusals.{IsRefusal}
use Rattle.depth_maker.specs.LeastCertMade.{IsLeastCert}
use Rattle.depth_maker.specs.Answers.{IsNoCertAccepted}
use Rattle.depth_maker.specs.declared.answering.MakeErr.{MakeErr}
use Rattle.depth_maker.specs.declared.answering.MakeErr.TheVariants as make_err
use Rattle.task_chains.specs.Tasks.{TasksData, count}
use Rattle.task_chains.specs.SwitchRoutine.{HasRoutine, IsRoutineFault}
use Rattle.task_chains.specs.Views.{view_image_of, view_plan_of}
use Rattle.task_chains.specs.Rule17.{KeepsRule17, IsRule17Fault}
use Rattle.task_chains.specs.SafeTasks.{SafeTasks, IsSoundTaskCert}
use Rattle.tcd_reading.specs.Reports.{Report, ReportFile, text_report, report_with_files}
use Rattle.tcd_reading.specs.Inputs.{Reading, input, answer}
use Rattle.tcd_driver.specs.BestCert.{IsLeastWithNeed}
use Rattle.tcd_driver.specs.CellAndTaskForms.{tasks_form}
use Rattle.tcd_forms.specs.Forms.{elf_form, plan_form}
use Rattle.tcd_forms.specs.Lines.{refused_switch_line, refused_task_line, refused_sum_line, certified_tasks_line}
use Rattle.tcd_driver.specs.Tasks.{cert_of_task, counted_needs_of_tasks, sum_of_needs, with_name_per_task}
use Rattle.tcd_reading.specs.declared.status.Status.TheVariants.{Refused}

-- the names of the files that `taskcert` reads, and of the certificates that it writes
pub record TaskcertArgs : Type 0 where
  pub elf : List ℕ
  pub plan : List ℕ
  pub tasks : List ℕ
  pub certs : List (List ℕ)

-- ---- one task

-- each certificate of format 2 that is accepted for a view fails K17
abbrev pub NoneKeepsTaskApart : ImageData → PlanData → TasksData → Type 0
NoneKeepsTaskApart view plan tasks =
    (cert : CertData) → IsCert cert → cert.version ≡ 2 → Accepts view plan cert → KeepsRule17 view plan tasks cert → ⊥

-- `taskcert` has no certificate for a view: none of format 2 is accepted, for this reason; or each
-- accepted one fails K17, and this is the first place at which the least one does
pub data HasNoTaskCert (view : ImageData) (plan : PlanData) (tasks : TasksData) : ℕ → Key → ℕ → Type 0 where
  unaccepted : (rule : ℕ) (key : Key) (addr : ℕ) → IsNoCertAccepted view plan 2 → IsRefusal view plan 2 rule key addr → HasNoTaskCert view plan tasks rule key addr
  not_apart :
      (cert : CertData) (key : Key) (addr : ℕ) → IsCert cert → IsLeastCert view plan 2 cert → IsRule17Fault view plan tasks cert key addr → NoneKeepsTaskApart view plan tasks
      → HasNoTaskCert view plan tasks 17 key addr

-- this is the least certificate of format 2 for task u's view, accepted for it, and keeps the tasks
-- apart (K17)
pub record IsLeastTaskCert (image : ImageData) (plan : PlanData) (tasks : TasksData) (u : ℕ) (cert : CertData) : Type 0 where
  pub made : IsLeastCert (view_image_of image tasks u) (view_plan_of plan tasks u) 2 cert
  pub judged : IsSoundTaskCert image plan tasks cert u

-- ---- all tasks
-- the certificates that `taskcert` has made, those of the first tasks: each is the least of format
-- 2 for its task's view
abbrev pub AreLeastTaskCerts : ImageData → PlanData → TasksData → List CertData → Type 0
AreLeastTaskCerts image plan tasks certs = (u : ℕ) → u < length certs → IsLeastTaskCert image plan tasks u (cert_of_task certs u)

-- task u is the first for which `taskcert` finds no certificate that is accepted and keeps the
-- tasks apart
pub record IsFirstUncertifiedTask (image : ImageData) (plan : PlanData) (tasks : TasksData) (u rule : ℕ) (key : Key) (addr : ℕ) : Type 0 where
  pub task : u < count tasks
  pub before : (w : ℕ) → w < u → (cert : CertData) × IsLeastTaskCert image plan tasks w cert
  pub uncertified : HasNoTaskCert (view_image_of image tasks u) (view_plan_of plan tasks u) tasks rule key addr

-- the files that `taskcert` writes: each certificate under its name
unfoldable pub cert_files : List (List ℕ) → List CertData → List ReportFile
cert_files (name ∷ names) (cert ∷ certs) = record { name = name; bytes = bytes_of_cert cert } ∷ cert_files names certs
cert_files _ _ = []

-- The report on an image, a plan and its tasks. The image doesn't have the switch routine; or it
-- has, and the first task for which no certificate is judged well is printed; or each task has one,
-- but the sum of the least ones' needs is above the areas without the reserve. Else the least ones
-- are written under their names, and every run of all tasks is safe.
pub data IsTaskcertReport (names : List (List ℕ)) (image : ImageData) (plan : PlanData) (tasks : TasksData) (report : Report) : Type 0 where
  no_switch : (addr : ℕ) → IsRoutineFault image plan tasks addr → report ≡ text_report Refused (refused_switch_line addr) → IsTaskcertReport names image plan tasks report
  refused :
      (u rule : ℕ) (key : Key) (addr : ℕ) → HasRoutine image plan tasks → IsFirstUncertifiedTask image plan tasks u rule key addr
      → report ≡ text_report Refused (refused_task_line rule key addr u) → IsTaskcertReport names image plan tasks report
  above :
      (certs : List CertData) → HasRoutine image plan tasks → length certs ≡ count tasks → AreLeastTaskCerts image plan tasks certs
      → plan.areas - plan.reserve < sum_of_needs image plan tasks certs
      → report ≡ text_report Refused (refused_sum_line (sum_of_needs image plan tasks certs) (plan.areas - plan.reserve)) → IsTaskcertReport names image plan tasks report
  certified :
      (certs : List CertData) → HasRoutine image plan tasks → length certs ≡ count tasks → AreLeastTaskCerts image plan tasks certs
      → sum_of_needs image plan tasks certs ≤ plan.areas - plan.reserve → SafeTasks image plan tasks (counted_needs_of_tasks image plan tasks certs)
      → report ≡ report_with_files (cert_files names certs) (certified_tasks_line (sum_of_needs image plan tasks certs) (plan.areas - plan.reserve) (count tasks))
      → IsTaskcertReport names image plan tasks report

-- reads an executable, a plan and its tasks; then a certificate for each task is made
abbrev pub taskcert_reading : TaskcertArgs → Reading
taskcert_reading names =
    input ImageData elf_form names.elf
    (λ image. input PlanData plan_form names.plan
    (λ plan. input TasksData (tasks_form plan) names.tasks
    (λ tasks. with_name_per_task names.certs tasks (answer (IsTaskcertReport names.certs image plan tasks)))))

-- ---- by what the code has
-- the result of making the least certificate of a view that keeps K17, with its need
abbrev pub IsTaskViewCertOrErr : ImageData → PlanData → TasksData → Result (CertData × ℕ) MakeErr → Type 0
IsTaskViewCertOrErr view plan tasks (Ok made) = IsLeastWithNeed view plan 2 made.0 made.1 × KeepsRule17 view plan tasks made.0
IsTaskViewCertOrErr view plan tasks (Err (make_err.Refused rule key addr)) = HasNoTaskCert view plan tasks rule key addr
IsTaskViewCertOrErr view plan tasks (Err make_err.NoMemory) = Unit {0}

-- the certificate of task u is made, and has this need
pub record IsTaskCertWithNeed (image : ImageData) (plan : PlanData) (tasks : TasksData) (u : ℕ) (cert : CertData) (need : ℕ) : Type 0 where
  pub made : IsLeastTaskCert image plan tasks u cert
  pub need_is : need ≡ certified_need (view_image_of image tasks u) (view_plan_of plan tasks u) cert

-- the result of making a certificate for task u: that, with its need, or why there is none
abbrev pub IsTaskCertOrErr : ImageData → PlanData → TasksData → ℕ → Result (CertData × ℕ) MakeErr → Type 0
IsTaskCertOrErr image plan tasks u (Ok made) = IsTaskCertWithNeed image plan tasks u made.0 made.1
IsTaskCertOrErr image plan tasks u (Err (make_err.Refused rule key addr)) = HasNoTaskCert (view_image_of image tasks u) (view_plan_of plan tasks u) tasks rule key addr
IsTaskCertOrErr image plan tasks u (Err make_err.NoMemory) = Unit {0}

-- the files that `taskcert` writes, a certificate for each task, with the sum of the needs
pub record AreTaskCertFiles (names : List (List ℕ)) (image : ImageData) (plan : PlanData) (tasks : TasksData) (writes : List ReportFile) (sum : ℕ) : Type 0 where
  pub certs : List CertData
  pub many : length certs ≡ count tasks
  pub made : AreLeastTaskCerts image plan tasks certs
  pub files : writes ≡ cert_files names certs
  pub sum_is : sum ≡ sum_of_needs image plan tasks certs

-- the result of making a certificate for each task: their files and the sum of their needs, or the
-- first task without one
abbrev pub AreTaskCertsOrErr : List (List ℕ) → ImageData → PlanData → TasksData → Result (Vec ReportFile Global × ℕ) (ℕ × MakeErr) → Type 0
AreTaskCertsOrErr names image plan tasks (Ok (writes, sum)) = AreTaskCertFiles names image plan tasks writes.items sum
AreTaskCertsOrErr names image plan tasks (Err (u, make_err.Refused rule key addr)) = IsFirstUncertifiedTask image plan tasks u rule key addr
AreTaskCertsOrErr names image plan tasks (Err (u, make_err.NoMemory)) = Unit {0}
