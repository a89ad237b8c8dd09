-- The states in which tasks start.
use Rattle.std.specs.Prelude.{◌≡◌, ◌+◌, ◌-◌, ◌*◌, ◌/◌, ◌%◌, ◌^◌, ◌<◌, ◌≤◌, ℕ, true, false, slice_index}
use Rattle.csa_chain.specs.MemoryBytes.{Memory, word_at}
use Rattle.csa_chain.specs.Chain.{link_in, area_word}
use Rattle.csa_chain.specs.ContextWords.{pcxi_word_of, ul_of}
use Rattle.elf_image.specs.Images.{ImageData}
use Rattle.tcd_base.specs.declared.core_version.Core.{Core}
use Rattle.tcd_plan.specs.PlanData.{PlanData}
use Rattle.tc_machine.specs.declared.events.End.TheVariants.{Running}
use Rattle.tc_machine.specs.declared.state.Machine.{Machine}
use Rattle.tc_machine.specs.Machine.{is_interrupt_stack_used, IsMachine}
use Rattle.tc_machine.specs.PlanAreas.{first_link, area_link_or_zero}
use Rattle.tc_machine.specs.Starting.{HasGlobals}
use Rattle.tc_mem.specs.PlanMemory.{HoldsRom, IsPlanMemory}
use Rattle.task_chains.specs.Tasks.{TasksData, count, task_at}

-- ---- the block
-- the word of task u in the block; where the tasks start, that of a task that is ready names its
-- lower context
abbrev pub block_word : TasksData → Memory → ℕ → ℕ
block_word tasks mem u = word_at mem (tasks.block + 4 * u)

-- the number of the current task, the block's last word; it is 0 in each state in which the tasks
-- start
abbrev pub current_task : TasksData → Memory → ℕ
current_task tasks mem = block_word tasks mem (count tasks)

-- ---- contexts of the tasks that didn't start yet
-- the link of the area of the upper context of a task other than the first
abbrev pub task_upper_area : PlanData → ℕ → ℕ
task_upper_area plan u = first_link plan + 2 * (u - 1)

-- the link of the area of the lower context of a task other than the first
abbrev pub task_lower_area : PlanData → ℕ → ℕ
task_lower_area plan u = first_link plan + (2 * (u - 1) + 1)

-- how many areas hold contexts of tasks at the start: two for each task except the first
abbrev pub areas_held_at_start : TasksData → ℕ
areas_held_at_start tasks = 2 * (count tasks - 1)

-- Task u is ready for its first turn. The task's word of the block is a PCXI that names a lower
-- context with the entry as A11. That context links to an upper context with the stack pointer, IO
-- 2 and IS 0, where the chain ends. All else is any.
pub record IsTaskReady (core : Core) (plan : PlanData) (tasks : TasksData) (mem : Memory) (u : ℕ) : Type 0 where
  pub ends : area_word mem (task_upper_area plan u) 0 ≡ 0
  pub io : area_word mem (task_upper_area plan u) 1 / 2 ^ 10 % 4 ≡ 2
  pub is : is_interrupt_stack_used (area_word mem (task_upper_area plan u) 1) ≡ false
  pub sp : area_word mem (task_upper_area plan u) 2 ≡ (task_at tasks u).sp
  pub above : link_in (area_word mem (task_lower_area plan u) 0) ≡ task_upper_area plan u
  pub ul : ul_of core (area_word mem (task_lower_area plan u) 0) ≡ true
  pub entry : area_word mem (task_lower_area plan u) 1 ≡ (task_at tasks u).entry
  pub word : block_word tasks mem u ≡ pcxi_word_of core 0 false false (task_lower_area plan u)

-- A state that starts the tasks: the first one runs, the others are ready, and all other areas are
-- free, in ascending order. All other bytes and registers are any.
pub record TasksStart (image : ImageData) (plan : PlanData) (tasks : TasksData) (m : Machine) : Type 0 where
  pub machine : IsMachine m
  pub memory : IsPlanMemory plan m.mem
  pub rom : HoldsRom image plan m.mem
  pub room : areas_held_at_start tasks ≤ plan.areas
  pub first : current_task tasks m.mem ≡ 0
  pub ready : (u : ℕ) → 1 ≤ u → u < count tasks → IsTaskReady plan.core plan tasks m.mem u
  pub linked : (i : ℕ) → areas_held_at_start tasks ≤ i → i < plan.areas → area_word m.mem (first_link plan + i) 0 ≡ area_link_or_zero plan (i + 1)
  pub fcx : m.fcx ≡ area_link_or_zero plan (areas_held_at_start tasks)
  pub lcx : m.lcx ≡ first_link plan + (plan.areas - plan.reserve)
  pub pcxi : m.pcxi ≡ 0
  pub pc : m.pc ≡ (task_at tasks 0).entry
  pub sp : slice_index m.a 10 ≡ (task_at tasks 0).sp
  pub globals : HasGlobals plan m.a
  pub biv : m.biv ≡ plan.biv
  pub btv : m.btv ≡ plan.btv
  pub isp : m.isp ≡ plan.isp
  pub ie : m.ie ≡ plan.start_ie
  pub ccpn : m.ccpn ≡ plan.start_ccpn
  pub is : is_interrupt_stack_used m.psw ≡ plan.start_is
  pub io : m.psw / 2 ^ 10 % 4 ≡ 2
  pub end : m.end ≡ Running
  pub core : m.core ≡ plan.core
