-- Statements of the laws of the views of tasks.
use Rattle.std.specs.Prelude.{◌≡◌, ◌<◌, ◌≤◌, ◌+◌, ◌⊎◌, ℕ}
use Rattle.elf_image.specs.Images.{ImageData, image_byte}
use Rattle.tcd_plan.specs.PlanData.{PlanData, IsPlan}
use Rattle.tcd_plan.specs.MappedAddresses.{IsStoreInRange}
use Rattle.task_chains.specs.Tasks.{TasksData, AreTasks, count}
use Rattle.task_chains.specs.SwitchRoutine.{routine_size}
use Rattle.task_chains.specs.Views.{view_image_of, view_plan_of, TasksFitPlan}
use Rattle.task_chains.specs.SafeTasks.{MissesBlock}

-- the plan of a task's view, for which its certificate is judged, is a plan
abbrev pub ViewPlansAreValid : Type 0
ViewPlansAreValid = (plan : PlanData) (tasks : TasksData) (u : ℕ) → IsPlan plan → AreTasks tasks → TasksFitPlan plan tasks → u < count tasks → IsPlan (view_plan_of plan tasks u)

-- a store in range of a task's view is in range of the plan, and misses the block, which holds a
-- word for each task
abbrev pub ViewStoresAreInRangeAndMissBlock : Type 0
ViewStoresAreInRangeAndMissBlock =
    (plan : PlanData) (tasks : TasksData) (u x n : ℕ) → IsPlan plan → AreTasks tasks → TasksFitPlan plan tasks → 0 < n → IsStoreInRange (view_plan_of plan tasks u) (x, n)
    → IsStoreInRange plan (x, n) × MissesBlock tasks (x, n)

-- outside of the switch routine, the image of a task's view has the image's bytes
abbrev pub ViewImagesKeepBytes : Type 0
ViewImagesKeepBytes =
    (image : ImageData) (tasks : TasksData) (u x : ℕ) → (x < tasks.switch) ⊎ (tasks.switch + routine_size ≤ x) → image_byte (view_image_of image tasks u) x ≡ image_byte image x
