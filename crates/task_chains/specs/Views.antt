-- The view of a task: the image and the plan for which its certificate is judged.
use Rattle.std.specs.Prelude.{◌≡◌, ◌+◌, ◌-◌, ◌≤◌, ◌==◌, ℕ, false, if◌then◌else◌, List, ◌∷◌, length, map, slice_index_or, []}
use Rattle.elf_image.specs.Images.{ImageData, SegmentData}
use Rattle.tcd_plan.specs.PlanData.{PlanData}
use Rattle.tcd_base.specs.Ranges.{IsInOneRange}
use Rattle.task_chains.specs.Tasks.{TasksData, task_at, block_size}
use Rattle.task_chains.specs.SwitchRoutine.{view_routine_bytes, is_in_routine}
use Rattle.task_chains.specs.Devices.{view_devices}

-- ---- the image

-- the bytes of a segment from address x on, with those of the switch routine replaced by the view's
unfoldable pub with_view_routine_from : TasksData → ℕ → List ℕ → List ℕ
with_view_routine_from tasks x [] = []
with_view_routine_from tasks x (b ∷ bs) =
    (if is_in_routine tasks x then slice_index_or (view_routine_bytes tasks) (x - tasks.switch) 0 else b) ∷ with_view_routine_from tasks (x + 1) bs

-- a segment with the view's bytes instead of the routine's
abbrev pub view_segment : TasksData → SegmentData → SegmentData
view_segment tasks s = record { at = s.at; bytes = with_view_routine_from tasks s.at s.bytes }

-- the image with the task's entry and the view's routine
abbrev pub view_image_of : ImageData → TasksData → ℕ → ImageData
view_image_of image tasks u = record { entry = (task_at tasks u).entry; segments = map (view_segment tasks) image.segments }

-- ---- the plan

-- the plan with the task's stack pointer, without ram, and with interrupts off at the start of all
-- tasks but the first
abbrev pub view_plan_of : PlanData → TasksData → ℕ → PlanData
view_plan_of plan tasks u = record plan {
  ram = [];
  devices = view_devices plan tasks;
  sp = (task_at tasks u).sp;
  start_ie = if u == 0 then plan.start_ie else false;
}

-- the views of the tasks fit the plan: the block is inside one ram range of it, a view has at most
-- 16 peripherals, and the start isn't on the interrupt stack
pub record TasksFitPlan (plan : PlanData) (tasks : TasksData) : Type 0 where
  pub in_ram : IsInOneRange tasks.block (block_size tasks) plan.ram
  pub room : length (view_devices plan tasks) ≤ 16
  pub own_stack : plan.start_is ≡ false
