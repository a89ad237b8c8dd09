-- What `tasks` reads and prints.
use Rattle.std.specs.Prelude.{◌≡◌, ◌-◌, ◌<◌, ◌≤◌, ◌==◌, ℕ, Bool, true, false, List, [], length, slice_index_or}
use Rattle.csa_chain.specs.SeveralChains.{sum_of_first}
use Rattle.elf_image.specs.Images.{ImageData}
use Rattle.tcd_plan.specs.PlanData.{PlanData}
use Rattle.depth_cert.specs.Certs.{CertData}
use Rattle.depth_cert.specs.declared.keys.Key.{Key}
use Rattle.cfg_recover.specs.RulesHoldOrFail.{Accepts, IsFirstFault, certified_need}
use Rattle.depth_check.specs.declared.verdicts.Verdict.{Verdict}
use Rattle.depth_check.specs.declared.verdicts.Verdict.TheVariants.{Yes, No}
use Rattle.task_chains.specs.declared.task_lists.TasksErr.TheVariants.{Count}
use Rattle.task_chains.specs.Tasks.{TasksData, count}
use Rattle.task_chains.specs.SwitchRoutine.{HasRoutine, IsRoutineFault}
use Rattle.task_chains.specs.Views.{view_image_of, view_plan_of}
use Rattle.task_chains.specs.Rule17.{IsRule17Fault}
use Rattle.task_chains.specs.SafeTasks.{SafeTasks, IsSoundTaskCert, need_of_task}
use Rattle.tcd_reading.specs.Reports.{Report, text_report}
use Rattle.tcd_reading.specs.Inputs.{Reading, input, input_files, answer}
use Rattle.tcd_driver.specs.CellAndTaskForms.{tasks_form}
use Rattle.tcd_forms.specs.Forms.{elf_form, plan_form, cert_form}
use Rattle.tcd_forms.specs.Lines.{refused_switch_line, refused_task_line, refused_sum_line, certified_tasks_line}
use Rattle.tcd_driver.specs.BadInputLines.{bad_tasks_line}
use Rattle.tcd_driver.specs.declared.commands.tasks.Tally.{Tally}
use Rattle.tcd_driver.specs.declared.commands.tasks.Tally.TheVariants.{Sum, Against}
use Rattle.tcd_reading.specs.declared.status.Status.TheVariants.{Done, Refused, BadInput}

-- the names of the files that `tasks` reads
pub record TasksArgs : Type 0 where
  pub elf : List ℕ
  pub plan : List ℕ
  pub tasks : List ℕ
  pub certs : List (List ℕ)

-- the certificate of task u, at place u of the list that `tasks` reads; an empty one past its end
abbrev pub cert_of_task : List CertData → ℕ → CertData
cert_of_task certs u = slice_index_or certs u (record { version = 1; nodes = [] })

-- ---- one task
-- the certificate isn't accepted for the task's view, and its first fault is this; or it is
-- accepted, and this is the first place at which K17 fails
pub data IsTaskRefused (image : ImageData) (plan : PlanData) (tasks : TasksData) (cert : CertData) (u : ℕ) : ℕ → Key → ℕ → Type 0 where
  unaccepted :
      (rule : ℕ) (key : Key) (addr : ℕ) → IsFirstFault (view_image_of image tasks u) (view_plan_of plan tasks u) cert rule key addr
      → IsTaskRefused image plan tasks cert u rule key addr
  not_apart :
      (key : Key) (addr : ℕ) → Accepts (view_image_of image tasks u) (view_plan_of plan tasks u) cert
      → IsRule17Fault (view_image_of image tasks u) (view_plan_of plan tasks u) tasks cert key addr → IsTaskRefused image plan tasks cert u 17 key addr

-- the verdict of `tasks` on one task's certificate: accepted for its view and apart from the
-- others, with this need; or refused
abbrev pub IsVerdictOnTask : ImageData → PlanData → TasksData → CertData → ℕ → Verdict → Type 0
IsVerdictOnTask image plan tasks cert u (Yes n) =
    IsSoundTaskCert image plan tasks cert u × (n ≡ certified_need (view_image_of image tasks u) (view_plan_of plan tasks u) cert)
IsVerdictOnTask image plan tasks cert u (No rule key addr) = IsTaskRefused image plan tasks cert u rule key addr

-- ---- all tasks
-- for each task the need that counts in the sum: its certificate's need, but at least 2 for each
-- task except the first
abbrev pub counted_needs_of_tasks : ImageData → PlanData → TasksData → List CertData → ℕ → ℕ
counted_needs_of_tasks image plan tasks certs = need_of_task image plan tasks (cert_of_task certs)

-- the sum of the needs of all tasks, which `tasks` compares with the areas
abbrev pub sum_of_needs : ImageData → PlanData → TasksData → List CertData → ℕ
sum_of_needs image plan tasks certs = sum_of_first (count tasks) (counted_needs_of_tasks image plan tasks certs)

-- for each task below n the certificate is accepted for the task's view and keeps the tasks apart
-- (K17)
abbrev pub AreFirstTaskCertsAccepted : ImageData → PlanData → TasksData → List CertData → ℕ → Type 0
AreFirstTaskCertsAccepted image plan tasks certs n = (u : ℕ) → u < n → IsSoundTaskCert image plan tasks (cert_of_task certs u) u

-- task u is the first whose certificate is refused
pub record IsFirstRefusedTaskCert (image : ImageData) (plan : PlanData) (tasks : TasksData) (certs : List CertData) (u rule : ℕ) (key : Key) (addr : ℕ) : Type 0 where
  pub task : u < count tasks
  pub before : AreFirstTaskCertsAccepted image plan tasks certs u
  pub refused : IsTaskRefused image plan tasks (cert_of_task certs u) u rule key addr

-- what `tasks` finds for all certificates: the sum of the tasks' needs, or the first task whose
-- certificate is refused
abbrev pub IsTallyOfTasks : ImageData → PlanData → TasksData → List CertData → Tally → Type 0
IsTallyOfTasks image plan tasks certs (Sum n) = AreFirstTaskCertsAccepted image plan tasks certs (count tasks) × (n ≡ sum_of_needs image plan tasks certs)
IsTallyOfTasks image plan tasks certs (Against u rule key addr) = IsFirstRefusedTaskCert image plan tasks certs u rule key addr

-- The verdict on an image, a plan, its tasks and a certificate for each. The image doesn't have the
-- switch routine; or it has, and the first task whose certificate is refused is printed; or no
-- certificate is refused, and the sum of the needs is above the areas without the reserve. Else
-- every run of all tasks is safe with these needs.
pub data IsTasksVerdict (image : ImageData) (plan : PlanData) (tasks : TasksData) (certs : List CertData) (report : Report) : Type 0 where
  no_switch : (addr : ℕ) → IsRoutineFault image plan tasks addr → report ≡ text_report Refused (refused_switch_line addr) → IsTasksVerdict image plan tasks certs report
  refused :
      (u rule : ℕ) (key : Key) (addr : ℕ) → HasRoutine image plan tasks → IsFirstRefusedTaskCert image plan tasks certs u rule key addr
      → report ≡ text_report Refused (refused_task_line rule key addr u) → IsTasksVerdict image plan tasks certs report
  above :
      HasRoutine image plan tasks → AreFirstTaskCertsAccepted image plan tasks certs (count tasks) → plan.areas - plan.reserve < sum_of_needs image plan tasks certs
      → report ≡ text_report Refused (refused_sum_line (sum_of_needs image plan tasks certs) (plan.areas - plan.reserve)) → IsTasksVerdict image plan tasks certs report
  certified :
      HasRoutine image plan tasks → AreFirstTaskCertsAccepted image plan tasks certs (count tasks) → sum_of_needs image plan tasks certs ≤ plan.areas - plan.reserve
      → SafeTasks image plan tasks (counted_needs_of_tasks image plan tasks certs)
      → report ≡ text_report Done (certified_tasks_line (sum_of_needs image plan tasks certs) (plan.areas - plan.reserve) (count tasks))
      → IsTasksVerdict image plan tasks certs report

-- the report of `tasks` or `taskcert` if it doesn't name as many certificates as there are tasks
abbrev pub IsWrongCertCountReport : Report → Type 0
IsWrongCertCountReport report = report ≡ text_report BadInput (bad_tasks_line Count)

-- ---- what is read
-- what `tasks` or `taskcert` reads next if the number of its certificates is right (true); else
-- nothing, and the bad count is reported
abbrev pub tasks_reading_if : Bool → Reading → Reading
tasks_reading_if true reading = reading
tasks_reading_if false reading = answer IsWrongCertCountReport

-- what the commands `tasks` and `taskcert` read next if they have as many names of certificates as
-- tasks; else their line of bad input is printed
abbrev pub with_name_per_task : List (List ℕ) → TasksData → Reading → Reading
with_name_per_task names tasks reading = tasks_reading_if (length names == count tasks) reading

-- reads the certificates of these names, one for each task; then the verdict is printed
abbrev pub named_certs_reading : List (List ℕ) → ImageData → PlanData → TasksData → Reading
named_certs_reading names image plan tasks = input_files CertData (λ _. cert_form) 0 names (λ certs. answer (IsTasksVerdict image plan tasks certs))

-- reads a certificate for each task; then the verdict is printed
abbrev pub task_certs_reading : List (List ℕ) → ImageData → PlanData → TasksData → Reading
task_certs_reading names image plan tasks = with_name_per_task names tasks (named_certs_reading names image plan tasks)

-- reads an executable, a plan and its tasks, and then the certificates
abbrev pub tasks_reading : TasksArgs → Reading
tasks_reading names =
    input ImageData elf_form names.elf
    (λ image. input PlanData plan_form names.plan
    (λ plan. input TasksData (tasks_form plan) names.tasks (λ tasks. task_certs_reading names.certs image plan tasks)))
