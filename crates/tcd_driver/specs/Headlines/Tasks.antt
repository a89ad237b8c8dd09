-- What it means that `tasks` and `taskcert` are done, or refuse.
use Rattle.std.specs.Prelude.{◌≡◌, ◌≢◌, ◌≤◌, ◌<◌, ◌-◌, ◌^◌, ◌⊎◌, ℕ, List, ◌∷◌, ◌++◌, codes, length, All, Ok, Some, []}
use Rattle.std.specs.Fmt.{decimal}
use Rattle.std.specs.FinMap.{get}
use Rattle.csa_chain.specs.SeveralChains.{sum_of_first}
use Rattle.elf_image.specs.Images.{ImageData}
use Rattle.tcd_plan.specs.PlanData.{PlanData}
use Rattle.tcd_text.specs.HexNumbers.{hex_word}
use Rattle.tcd_text.specs.Lines.{text_lines}
use Rattle.depth_cert.specs.declared.keys.Key.{Key}
use Rattle.depth_cert.specs.Certs.{CertData, IsCert}
use Rattle.depth_cert.specs.Grammar.{certificate_of}
use Rattle.depth_cert.specs.Spelling.{bytes_of_cert}
use Rattle.cfg_recover.specs.RulesHoldOrFail.{Accepts, IsFirstFault}
use Rattle.cfg_recover.specs.CertRefusals.{IsRefusal}
use Rattle.task_chains.specs.Tasks.{TasksData, count}
use Rattle.task_chains.specs.TaskListText.{IsResultOfTaskText}
use Rattle.task_chains.specs.SwitchRoutine.{HasRoutine, IsRoutineFault}
use Rattle.task_chains.specs.Views.{view_image_of, view_plan_of}
use Rattle.task_chains.specs.Rule17.{KeepsRule17, IsRule17Fault}
use Rattle.task_chains.specs.SafeTasks.{SafeTasks, need_of_task}
use Rattle.tcd_base.specs.Files.{FileMap}
use Rattle.tcd_driver.specs.Tasks.{cert_of_task}
use Rattle.tcd_driver.specs.Headlines.{HoldsFile, AreFirmwareFiles, HoldEachFile, refused_text}
use Rattle.depth_maker.specs.Answers.{IsNoCertAccepted}
use Rattle.tcd_driver.specs.BestCert.{IsLeastOfItsFormat}

-- the files that `tasks` and `taskcert` read first: the names hold an executable, a plan, and its
-- tasks
pub record AreTaskFiles (before : FileMap) (elf_name plan_name tasks_name : List ℕ) (image : ImageData) (plan : PlanData) (list : TasksData) : Type 0 where
  pub firmware : AreFirmwareFiles before elf_name plan_name image plan
  pub tasks_file : HoldsFile before tasks_name (2 ^ 24) (λ bytes. IsResultOfTaskText plan (text_lines bytes) (Ok list))

-- in the headlines of tasks: the certificate is accepted for task u's view of the image and the
-- plan, and keeps the task apart from the others
pub record IsAcceptedForTask (image : ImageData) (plan : PlanData) (list : TasksData) (u : ℕ) (cert : CertData) : Type 0 where
  pub accepted : Accepts (view_image_of image list u) (view_plan_of plan list u) cert
  pub apart : KeepsRule17 (view_image_of image list u) (view_plan_of plan list u) list cert

-- The image has the switch routine, and each task has a certificate. The needs, at least two for
-- each task except the first, are together at most the areas without the reserve. So every run of
-- all tasks is safe with these needs.
pub record AreTasksSafeTogether (image : ImageData) (plan : PlanData) (list : TasksData) (certs : List CertData) (needs : ℕ → ℕ) : Type 0 where
  pub as_many : length certs ≡ count list
  pub routine : HasRoutine image plan list
  pub each : (u : ℕ) → u < count list → IsAcceptedForTask image plan list u (cert_of_task certs u)
  pub needs_are : (u : ℕ) → needs u ≡ need_of_task image plan list (cert_of_task certs) u
  pub enough : sum_of_first (count list) needs ≤ plan.areas - plan.reserve
  pub safe : SafeTasks image plan list needs

-- in the headlines of tasks: the sum of the certificates' needs
abbrev pub sum_of_task_needs : ImageData → PlanData → TasksData → List CertData → ℕ
sum_of_task_needs image plan list certs = sum_of_first (count list) (need_of_task image plan list (cert_of_task certs))

-- in the headlines of tasks: the line of an image without the switch routine, with the first
-- address that differs
abbrev pub refused_switch_line_text : ℕ → List ℕ
refused_switch_line_text address = codes "refused switch at " ++ (hex_word address ++ 10 ∷ [])

-- in the headlines of tasks: the line of a refusal by a task's certificate, with the rule, the
-- frame, and the task
abbrev pub refused_task_line_text : ℕ → Key → ℕ → ℕ → List ℕ
refused_task_line_text rule frame address u = refused_text rule frame address ++ (codes " of task " ++ (decimal u ++ 10 ∷ []))

-- the line in the headlines of `tasks` and `taskcert`: the needs together, the areas without the
-- reserve, and the number of tasks
abbrev pub certified_tasks_line_text : ℕ → ℕ → ℕ → List ℕ
certified_tasks_line_text sum areas n =
    codes "certified " ++ (decimal sum ++ (codes " of " ++ (decimal areas ++ (codes " areas in " ++ (decimal n ++ (codes " tasks" ++ 10 ∷ []))))))

-- the line in the refusals by `tasks` and `taskcert` if the needs are together above the areas
-- without the reserve, with both numbers
abbrev pub refused_sum_line_text : ℕ → ℕ → List ℕ
refused_sum_line_text sum areas = codes "refused sum " ++ (decimal sum ++ (codes " of " ++ (decimal areas ++ (codes " areas" ++ 10 ∷ []))))

-- `tasks` is done: by the certificates, one for each task, all tasks are safe together.
pub record HeadlineOfTasks (elf_name plan_name tasks_name : List ℕ) (cert_names : List (List ℕ)) (before after : FileMap) (printed : List ℕ) : Type 0 where
  pub image : ImageData
  pub plan : PlanData
  pub list : TasksData
  pub certs : List CertData
  pub needs : ℕ → ℕ
  pub files : AreTaskFiles before elf_name plan_name tasks_name image plan list
  pub cert_files : HoldEachFile before (2 ^ 30) (λ bytes cert. certificate_of bytes ≡ Ok cert) cert_names certs
  pub together : AreTasksSafeTogether image plan list certs needs
  pub prints : printed ≡ certified_tasks_line_text (sum_of_first (count list) needs) (plan.areas - plan.reserve) (count list)
  pub stays : after ≡ before

-- Task u is the first whose certificate is refused. It isn't accepted for the task's view, and this
-- rule fails first. Or it is accepted, and this is the first place at which it doesn't keep the
-- task apart (K17).
pub record IsFirstRefusedTask (image : ImageData) (plan : PlanData) (list : TasksData) (certs : List CertData) (u rule : ℕ) (frame : Key) (address : ℕ) : Type 0 where
  pub task : u < count list
  pub before : (w : ℕ) → w < u → IsAcceptedForTask image plan list w (cert_of_task certs w)
  pub fails :
      IsFirstFault (view_image_of image list u) (view_plan_of plan list u) (cert_of_task certs u) rule frame address
      ⊎ ((rule ≡ 17) × Accepts (view_image_of image list u) (view_plan_of plan list u) (cert_of_task certs u)
      × IsRule17Fault (view_image_of image list u) (view_plan_of plan list u) list (cert_of_task certs u) frame address)

-- why `tasks` refuses, and the line of its headline: no switch routine; else a refused certificate
-- of a task; else needs that are together above the areas without the reserve
pub data IsTasksFault (image : ImageData) (plan : PlanData) (list : TasksData) (certs : List CertData) (line : List ℕ) : Type 0 where
  no_switch : (address : ℕ) → IsRoutineFault image plan list address → line ≡ refused_switch_line_text address → IsTasksFault image plan list certs line
  refused_task :
      (u rule : ℕ) (frame : Key) (address : ℕ) → HasRoutine image plan list → IsFirstRefusedTask image plan list certs u rule frame address
      → line ≡ refused_task_line_text rule frame address u → IsTasksFault image plan list certs line
  above :
      HasRoutine image plan list → ((u : ℕ) → u < count list → IsAcceptedForTask image plan list u (cert_of_task certs u))
      → plan.areas - plan.reserve < sum_of_task_needs image plan list certs → line ≡ refused_sum_line_text (sum_of_task_needs image plan list certs) (plan.areas - plan.reserve)
      → IsTasksFault image plan list certs line

-- `tasks` refuses the image, a certificate, or the sum of the needs. There is a certificate for
-- each task.
pub record RefusalByTasks (elf_name plan_name tasks_name : List ℕ) (cert_names : List (List ℕ)) (before after : FileMap) (printed : List ℕ) : Type 0 where
  pub image : ImageData
  pub plan : PlanData
  pub list : TasksData
  pub certs : List CertData
  pub files : AreTaskFiles before elf_name plan_name tasks_name image plan list
  pub cert_files : HoldEachFile before (2 ^ 30) (λ bytes cert. certificate_of bytes ≡ Ok cert) cert_names certs
  pub as_many : length certs ≡ count list
  pub fault : IsTasksFault image plan list certs printed
  pub stays : after ≡ before

-- in the headline of `taskcert`: the names hold the bytes of these certificates, one by one
abbrev pub HoldTaskCerts : FileMap → List (List ℕ) → List CertData → Type 0
HoldTaskCerts m [] [] = Unit {0}
HoldTaskCerts m [] (cert ∷ certs) = ⊥
HoldTaskCerts m (name ∷ names) [] = ⊥
HoldTaskCerts m (name ∷ names) (cert ∷ certs) = (get m name ≡ Some (bytes_of_cert cert)) × HoldTaskCerts m names certs

-- what the headline of `taskcert` says of a certificate: it is the least of format 2 for task u's
-- view, and its bytes read back as it
pub record IsLeastForTask (image : ImageData) (plan : PlanData) (list : TasksData) (u : ℕ) (cert : CertData) : Type 0 where
  pub version : cert.version ≡ 2
  pub least : IsLeastOfItsFormat (view_image_of image list u) (view_plan_of plan list u) cert
  pub reads : certificate_of (bytes_of_cert cert) ≡ Ok cert

-- `taskcert` is done: the CERT names now hold such certificates, each the least of format 2. Each
-- other name holds what it held.
pub record HeadlineOfTaskcert (elf_name plan_name tasks_name : List ℕ) (cert_names : List (List ℕ)) (before after : FileMap) (printed : List ℕ) : Type 0 where
  pub image : ImageData
  pub plan : PlanData
  pub list : TasksData
  pub certs : List CertData
  pub needs : ℕ → ℕ
  pub files : AreTaskFiles before elf_name plan_name tasks_name image plan list
  pub together : AreTasksSafeTogether image plan list certs needs
  pub least : (u : ℕ) → u < count list → IsLeastForTask image plan list u (cert_of_task certs u)
  pub written : HoldTaskCerts after cert_names certs
  pub others : (other : List ℕ) → All (λ name. other ≢ name) cert_names → get after other ≡ get before other
  pub prints : printed ≡ certified_tasks_line_text (sum_of_first (count list) needs) (plan.areas - plan.reserve) (count list)

-- In the headlines of tasks: no certificate of format 2 is accepted for the view, for this reason;
-- or each accepted one fails K17, and here the least one fails it.
pub data NoCertForTask (view : ImageData) (plan : PlanData) (list : TasksData) : ℕ → Key → ℕ → Type 0 where
  unaccepted : (rule : ℕ) (frame : Key) (address : ℕ) → IsNoCertAccepted view plan 2 → IsRefusal view plan 2 rule frame address → NoCertForTask view plan list rule frame address
  not_apart :
      (cert : CertData) (frame : Key) (address : ℕ) → ((other : CertData) → IsCert other → other.version ≡ 2 → Accepts view plan other → KeepsRule17 view plan list other → ⊥)
      → cert.version ≡ 2 → Accepts view plan cert → IsLeastOfItsFormat view plan cert → IsRule17Fault view plan list cert frame address → NoCertForTask view plan list 17 frame address

-- in the headlines of tasks, where `taskcert` refuses: task u is the first without a certificate
pub record IsFirstTaskWithoutCert (image : ImageData) (plan : PlanData) (list : TasksData) (u rule : ℕ) (frame : Key) (address : ℕ) : Type 0 where
  pub task : u < count list
  pub before : (w : ℕ) → w < u → (cert : CertData) × IsAcceptedForTask image plan list w cert × IsLeastForTask image plan list w cert
  pub none : NoCertForTask (view_image_of image list u) (view_plan_of plan list u) list rule frame address

-- why `taskcert` refuses, and the line of its headline: no switch routine; a task without a
-- certificate; or the needs of the least ones are together above the areas without the reserve
pub data IsTaskcertFault (image : ImageData) (plan : PlanData) (list : TasksData) (line : List ℕ) : Type 0 where
  switch_missing : (address : ℕ) → IsRoutineFault image plan list address → line ≡ refused_switch_line_text address → IsTaskcertFault image plan list line
  without :
      (u rule : ℕ) (frame : Key) (address : ℕ) → HasRoutine image plan list → IsFirstTaskWithoutCert image plan list u rule frame address
      → line ≡ refused_task_line_text rule frame address u → IsTaskcertFault image plan list line
  sum_above :
      (certs : List CertData) → HasRoutine image plan list
      → ((u : ℕ) → u < count list → IsAcceptedForTask image plan list u (cert_of_task certs u) × IsLeastForTask image plan list u (cert_of_task certs u))
      → plan.areas - plan.reserve < sum_of_task_needs image plan list certs → line ≡ refused_sum_line_text (sum_of_task_needs image plan list certs) (plan.areas - plan.reserve)
      → IsTaskcertFault image plan list line

-- `taskcert` refuses the image, a task, or the sum of the needs. There is a name for each task.
pub record RefusalByTaskcert (elf_name plan_name tasks_name : List ℕ) (cert_names : List (List ℕ)) (before after : FileMap) (printed : List ℕ) : Type 0 where
  pub image : ImageData
  pub plan : PlanData
  pub list : TasksData
  pub files : AreTaskFiles before elf_name plan_name tasks_name image plan list
  pub as_many : length cert_names ≡ count list
  pub fault : IsTaskcertFault image plan list printed
  pub stays : after ≡ before
