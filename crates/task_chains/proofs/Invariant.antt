-- The invariant of a run of all tasks: what the tasks share, the first contexts or the view of each
-- task that waits, and the place of the running task.
use Rattle.std.proofs.Common.{◌≡◌, ◌≢◌, ℕ, suc, ◌+◌, ◌-◌, ◌*◌, ◌/◌, ◌%◌, ◌^◌, ◌<◌, ◌≤◌, true, false, cond, List, [], ◌∷◌, length, ◌==◌}
use Rattle.csa_chain.specs.MemoryBytes.{Memory}
use Rattle.csa_chain.specs.Chain.{area_word}
use Rattle.csa_chain.specs.ContextWords.{pcxi_word_of, ul_of}
use Rattle.elf_image.specs.Images.{ImageData}
use Rattle.tcd_plan.specs.PlanData.{PlanData}
use Rattle.tc_machine.specs.declared.events.End.TheVariants.{Running}
use Rattle.tc_machine.specs.declared.state.Machine.{Machine}
use Rattle.tc_machine.specs.Machine.{reg, a11, is_interrupt_stack_used, IsMachine}
use Rattle.tc_machine.specs.Starting.{HasGlobals}
use Rattle.tc_mem.specs.PlanMemory.{HoldsRom, IsPlanMemory}
use Rattle.tc_machine.specs.PlanAreas.{first_link}
use Rattle.task_chains.specs.Tasks.{TasksData, count, task_at}
use Rattle.tc_isa.specs.NamedInstructions.{adjusted_upper_half}
use Rattle.task_chains.specs.Views.{view_image_of, view_plan_of}
use Rattle.task_chains.specs.TaskStarts.{block_word, current_task, task_upper_area, task_lower_area, IsTaskReady}
use Rattle.task_chains.specs.SwitchRoutine.{IsInRoutine}
use Rattle.task_chains.proofs.Alike.{seen_as}
use Rattle.task_chains.proofs.Switch.{Paused, Shared, Beside, SameLower}
use Rattle.task_chains.proofs.ViewStart.{SameRom}
use Rattle.task_chains.proofs.ViewRun.{ViewRun}

-- the task after this one in the round of n
abbrev pub after : ℕ → ℕ → ℕ
after n u = cond (suc u == n) 0 (suc u)

-- ---- views
-- A state that a run of task u's view has reached, and its memory, whose rom is the machine's
-- except for the routine.
pub record ViewOf (image : ImageData) (plan : PlanData) (tasks : TasksData) (u : ℕ) (mem : Memory) (v : Machine) : Type 0 where
  pub run : ViewRun image plan tasks u v
  pub memory : IsPlanMemory (view_plan_of plan tasks u) v.mem
  pub rom : HoldsRom (view_image_of image tasks u) (view_plan_of plan tasks u) v.mem
  pub same_rom : SameRom plan tasks mem v.mem

-- A task that waits, with the links of its chain: it is ready for its first turn, or its view is at
-- the instruction that it has instead of the one that gives PCXI to the next task.
pub data Waits (image : ImageData) (plan : PlanData) (tasks : TasksData) (u : ℕ) (m : Machine) (word : ℕ) (links : List ℕ) : Type 0 where
  ready : 1 ≤ u → IsTaskReady m.core plan tasks m.mem u → links ≡ task_lower_area plan u ∷ task_upper_area plan u ∷ [] → Waits image plan tasks u m word links
  paused :
      (v : Machine) (seen : List ℕ) → ViewOf image plan tasks u m.mem v → v.pc ≡ tasks.switch + 56 → v.ie ≡ false → v.ccpn ≡ plan.start_ccpn
      → Paused plan m.mem word links seen m.lcx v.mem v.pcxi v.fcx → Waits image plan tasks u m word links

-- ---- in the routine
-- What registers and the block hold at instruction i, from 1 to 14, while task u still owns PCXI.
pub record InRoutine (tasks : TasksData) (m : Machine) (u i : ℕ) (word_of : ℕ → ℕ) : Type 0 where
  pub pc : m.pc ≡ tasks.switch + 4 * i
  pub off : m.ie ≡ false
  pub high : i ≡ 3 → reg m 18 ≡ adjusted_upper_half tasks.block * 2 ^ 16 % 2 ^ 32
  pub block : 4 ≤ i → reg m 18 ≡ tasks.block
  pub own : 5 ≤ i → i ≤ 8 → reg m 0 ≡ u
  pub own_word : 6 ≤ i → i ≤ 7 → reg m 19 ≡ tasks.block + 4 * u
  pub pcxi : i ≡ 7 → reg m 1 ≡ m.pcxi
  pub stored : 8 ≤ i → block_word tasks m.mem u ≡ m.pcxi
  pub one_on : 9 ≤ i → i ≤ 10 → reg m 0 ≡ suc u
  pub at_end : i ≡ 10 → suc u ≡ count tasks
  pub next : 11 ≤ i → reg m 0 ≡ after (count tasks) u
  pub old_current : i ≤ 11 → current_task tasks m.mem ≡ u
  pub new_current : 12 ≤ i → current_task tasks m.mem ≡ after (count tasks) u
  pub next_word : i ≡ 13 → reg m 19 ≡ tasks.block + 4 * after (count tasks) u
  pub next_pcxi : i ≡ 14 → reg m 1 ≡ word_of (after (count tasks) u)

-- ---- the running task
-- The place of task u, which owns PCXI. Up to the switch its view is the machine except for its
-- memory and the first words of its chains. After the switch the view follows the machine until
-- both contexts are restored; at a first turn there is no view until then.
pub data Turn (image : ImageData) (plan : PlanData) (tasks : TasksData) (u : ℕ) (word_of : ℕ → ℕ) (chain_of : ℕ → List ℕ) (m : Machine) : Type 0 where
  runs :
      (view : Memory) (pcxi fcx : ℕ) (seen : List ℕ) → ViewOf image plan tasks u m.mem (seen_as m view pcxi fcx) → Paused plan m.mem m.pcxi (chain_of u) seen m.lcx view pcxi fcx
      → current_task tasks m.mem ≡ u → (IsInRoutine tasks m.pc → m.pc ≡ tasks.switch) → Turn image plan tasks u word_of chain_of m
  switches :
      (view : Memory) (pcxi fcx : ℕ) (seen : List ℕ) (i : ℕ) → 1 ≤ i → i ≤ 14 → ViewOf image plan tasks u m.mem (seen_as m view pcxi fcx) → Paused plan m.mem m.pcxi (chain_of u) seen m.lcx view pcxi fcx
      → InRoutine tasks m u i word_of → Turn image plan tasks u word_of chain_of m
  comes_back :
      (v : Machine) (seen : List ℕ) (i : ℕ) → 15 ≤ i → i ≤ 17 → m.pc ≡ tasks.switch + 4 * i → m.ie ≡ false → ViewOf image plan tasks u m.mem v → Beside m v → (i ≡ 17 → SameLower m v)
      → Paused plan m.mem m.pcxi (chain_of u) seen m.lcx v.mem v.pcxi v.fcx → current_task tasks m.mem ≡ u → Turn image plan tasks u word_of chain_of m
  begins :
      (i : ℕ) → 15 ≤ i → i ≤ 17 → m.pc ≡ tasks.switch + 4 * i → m.ie ≡ false → m.ccpn ≡ plan.start_ccpn → 1 ≤ u
      → (i ≤ 16 → IsTaskReady m.core plan tasks m.mem u × (m.pcxi ≡ pcxi_word_of m.core 0 false false (task_lower_area plan u)) × (chain_of u ≡ task_lower_area plan u ∷ task_upper_area plan u ∷ []))
      → (i ≡ 17 → (chain_of u ≡ task_upper_area plan u ∷ []) × (ul_of m.core m.pcxi ≡ true) × (a11 m ≡ (task_at tasks u).entry) × (area_word m.mem (task_upper_area plan u) 0 ≡ 0) × (area_word m.mem (task_upper_area plan u) 1 / 2 ^ 10 % 4 ≡ 2)
      × (is_interrupt_stack_used (area_word m.mem (task_upper_area plan u) 1) ≡ false) × (area_word m.mem (task_upper_area plan u) 2 ≡ (task_at tasks u).sp))
      → current_task tasks m.mem ≡ u → Turn image plan tasks u word_of chain_of m

-- ---- all
-- The invariant, with the task that owns PCXI, the first words of the chains, and the chains.
pub record AllKept (image : ImageData) (plan : PlanData) (tasks : TasksData) (needs : ℕ → ℕ) (m : Machine) (u : ℕ) (word_of : ℕ → ℕ) (chain_of : ℕ → List ℕ) : Type 0 where
  pub shared : Shared plan (count tasks) u word_of chain_of m.mem m.pcxi m.fcx m.lcx
  pub words : IsMachine m
  pub running : m.end ≡ Running
  pub memory : IsPlanMemory plan m.mem
  pub rom : HoldsRom image plan m.mem
  pub globals : HasGlobals plan m.a
  pub biv : m.biv ≡ plan.biv
  pub btv : m.btv ≡ plan.btv
  pub isp : m.isp ≡ plan.isp
  pub core : m.core ≡ plan.core
  pub lcx : m.lcx ≡ first_link plan + (plan.areas - plan.reserve)
  pub turn : Turn image plan tasks u word_of chain_of m
  pub waits : (w : ℕ) → w < count tasks → w ≢ u → (block_word tasks m.mem w ≡ word_of w) × Waits image plan tasks w m (word_of w) (chain_of w)
  pub needs_kept : (w : ℕ) → w < count tasks → length (chain_of w) ≤ needs w
