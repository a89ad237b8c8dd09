-- The task that owns the chain of PCXI, and what safe runs of all tasks are.
use Rattle.std.specs.Prelude.{◌≡◌, ◌+◌, ◌-◌, ◌<◌, ◌≤◌, ◌⊎◌, ◌↔◌, ◌==◌, ◌||◌, ℕ, max, if◌then◌else◌, List, length, Some, IfSome}
use Rattle.csa_chain.specs.Chain.{link_in, chain}
use Rattle.elf_image.specs.Images.{ImageData}
use Rattle.tcd_plan.specs.PlanData.{PlanData, IsPlan}
use Rattle.tc_machine.specs.declared.events.Event.{Event}
use Rattle.tc_machine.specs.declared.events.End.TheVariants.{Running}
use Rattle.tc_machine.specs.declared.state.Machine.{Machine}
use Rattle.tc_machine.specs.Stepping.{run, stored}
use Rattle.tc_machine.specs.PlanAreas.{plan_areas}
use Rattle.tc_machine.specs.Safe.{Fits, AllFit, IsAtCode, Safe}
use Rattle.tcd_plan.specs.MappedAddresses.{IsStoreInRange}
use Rattle.depth_cert.specs.Certs.{CertData, IsCert}
use Rattle.cfg_recover.specs.RulesHoldOrFail.{Accepts, certified_need}
use Rattle.cfg_recover.specs.EdgeAndFrameLaws.{FramesHeld}
use Rattle.csa_chain.specs.SeveralChains.{sum_of_first, ChainsPartitionAreas}
use Rattle.task_chains.specs.Tasks.{TasksData, AreTasks, count, block_size}
use Rattle.task_chains.specs.SwitchRoutine.{HasRoutine, IsInRoutine}
use Rattle.task_chains.specs.Views.{view_image_of, view_plan_of, TasksFitPlan}
use Rattle.task_chains.specs.Rule17.{KeepsRule17}
use Rattle.task_chains.specs.TaskStarts.{TasksStart, block_word, current_task}

-- ---- the owner
-- the task before this one in the round of n: it owns the chain of PCXI while the routine has made
-- this one the current task, but hasn't set PCXI yet
abbrev pub previous_task : ℕ → ℕ → ℕ
previous_task n u = if u == 0 then n - 1 else u - 1

-- The task whose chain begins in PCXI: the current one. While the routine has made the next task
-- the current one, but hasn't set PCXI yet, it is the task before the current one.
abbrev pub owner : TasksData → Machine → ℕ
owner tasks m =
    if m.pc == tasks.switch + 48 || m.pc == tasks.switch + 52 || m.pc == tasks.switch + 56 then previous_task (count tasks) (current_task tasks m.mem)
    else current_task tasks m.mem

-- the word that begins the chain of areas of task u: PCXI for the owner, else the task's word in
-- the block
abbrev pub chain_head : TasksData → Machine → ℕ → ℕ
chain_head tasks m u = if u == owner tasks m then m.pcxi else block_word tasks m.mem u

-- ---- safe
-- The chains of the tasks and the free list have each area of the plan once. Each task has at most
-- its need. FCX is at the limit exactly if all areas except the reserve are in use.
pub record AreAreasPartitioned (plan : PlanData) (tasks : TasksData) (needs : ℕ → ℕ) (m : Machine) : Type 0 where
  pub chain_of : ℕ → List ℕ
  pub free : List ℕ
  pub chains : (u : ℕ) → u < count tasks → chain m.mem (chain_head tasks m u) ≡ Some (chain_of u)
  pub free_chain : chain m.mem m.fcx ≡ Some free
  pub share : ChainsPartitionAreas (count tasks) chain_of free (plan_areas plan)
  pub within_need : (u : ℕ) → u < count tasks → length (chain_of u) ≤ needs u
  pub limit : (link_in m.fcx ≡ link_in m.lcx) ↔ (sum_of_first (count tasks) (λ u. length (chain_of u)) ≡ plan.areas - plan.reserve)

-- in a safe run of tasks, this store shares no byte with the block
abbrev pub MissesBlock : TasksData → ℕ × ℕ → Type 0
MissesBlock tasks at = (at.0 + at.1 ≤ tasks.block) ⊎ (tasks.block + block_size tasks ≤ at.0)

-- where a safe run of all tasks may store: in range, and in the block only by the routine
abbrev pub IsAllowedTaskStore : PlanData → TasksData → ℕ → ℕ × ℕ → Type 0
IsAllowedTaskStore plan tasks pc at = IsStoreInRange plan at × ((IsInRoutine tasks pc → ⊥) → MissesBlock tasks at)

-- a state of a run of all tasks is safe, and so is its next event
pub record AreTasksSafeAt (image : ImageData) (plan : PlanData) (tasks : TasksData) (needs : ℕ → ℕ) (m : Machine) (e : Event) : Type 0 where
  pub running : m.end ≡ Running
  pub owner : owner tasks m < count tasks
  pub areas : AreAreasPartitioned plan tasks needs m
  pub code_in_rom : IsAtCode image plan m
  pub stores : IfSome (stored m e) (IsAllowedTaskStore plan tasks m.pc)

-- all runs of the tasks are safe: from every start state, under any fitting events, each state
-- reached is safe, and so is its next event
abbrev pub SafeTasks : ImageData → PlanData → TasksData → (ℕ → ℕ) → Type 0
SafeTasks image plan tasks needs =
    (m : Machine) (es : List Event) (e : Event) → TasksStart image plan tasks m → AllFit plan m es → Fits plan (run m es) e → AreTasksSafeAt image plan tasks needs (run m es) e

-- ---- the theorem's premises
-- the need that counts for a task: the first starts with no area, each other with two
abbrev pub need_of_task : ImageData → PlanData → TasksData → (ℕ → CertData) → ℕ → ℕ
need_of_task image plan tasks certs u =
    let n = certified_need (view_image_of image tasks u) (view_plan_of plan tasks u) (certs u) in
    if u == 0 then n else max n 2

-- what the theorem of safe tasks needs of a task's certificate: it is accepted for the task's view
-- and keeps K17, and the view's runs are safe and have the certificate's frames
pub record IsSoundTaskCert (image : ImageData) (plan : PlanData) (tasks : TasksData) (cert : CertData) (u : ℕ) : Type 0 where
  pub is_cert : IsCert cert
  pub accepted : Accepts (view_image_of image tasks u) (view_plan_of plan tasks u) cert
  pub safe : Safe (view_image_of image tasks u) (view_plan_of plan tasks u) (certified_need (view_image_of image tasks u) (view_plan_of plan tasks u) cert)
  pub frames : FramesHeld (view_image_of image tasks u) (view_plan_of plan tasks u) cert
  pub apart : KeepsRule17 (view_image_of image tasks u) (view_plan_of plan tasks u) tasks cert

-- with the routine, certificates that are accepted and keep K17, and needs within the areas without
-- the reserve, all runs of the tasks are safe
abbrev pub TasksAreSafe : Type 0
TasksAreSafe =
    (image : ImageData) (plan : PlanData) (tasks : TasksData) (certs : ℕ → CertData) → IsPlan plan → AreTasks tasks → TasksFitPlan plan tasks → HasRoutine image plan tasks
    → ((u : ℕ) → u < count tasks → IsSoundTaskCert image plan tasks (certs u) u)
    → sum_of_first (count tasks) (need_of_task image plan tasks certs) ≤ plan.areas - plan.reserve
    → SafeTasks image plan tasks (need_of_task image plan tasks certs)
