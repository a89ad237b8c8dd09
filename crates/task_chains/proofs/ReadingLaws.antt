-- The tasks that a text names, and its error.
use Rattle.std.proofs.Common.{◌≡◌, ℕ, zero, suc, ◌+◌, ◌^◌, ◌<◌, ◌≤◌, inl, inr, Bool, true, false, IsTrue, List, [], ◌∷◌, length, get_or, Option, Some, None, Err, refl, sym, ap, ◌∙◌, subst, arith}
use Rattle.std.proofs.lemmas.Bool.{cases_lt}
use Rattle.std.proofs.lemmas.List.{take_all}
use Rattle.tcd_plan.specs.PlanData.{PlanData}
use Rattle.task_chains.specs.declared.lines.Places.{Places}
use Rattle.task_chains.specs.declared.task_lists.Task.{Task}
use Rattle.task_chains.specs.declared.task_lists.TasksErr.{TasksErr}
use Rattle.task_chains.specs.declared.task_lists.TasksErr.TheVariants.{BadLine, NotRam, NoRoom, OnIsp, Count}
use Rattle.task_chains.specs.Tasks.{TasksData, AreTasks, count}
use Rattle.task_chains.specs.Views.{TasksFitPlan}
use Rattle.task_chains.specs.TaskListText.{LinesNameTasks, IsBlockInRam, HasRoomForViews, IsTaskErr, IsResultOfTaskText, tasks_with, HasFirstSevenTasks, IsTasksDraftOfParts}

-- ---- what a draft says
module _ (plan : PlanData) (lines : List (List ℕ)) where
  pub all_said : (p : Places) (list : List Task) → HasFirstSevenTasks lines p list None → LinesNameTasks lines (tasks_with p list)
  all_said p list k = subst (λ l. LinesNameTasks lines (tasks_with p l)) (sym (k.seven ∙ take_all 7 k.all (let few : length k.all ≤ 7 = k.more in omega arith))) k.said

  pub drafted_said : (places : Option Places) (p : Places) (list : List Task) (eighth : Option ℕ) → IsTasksDraftOfParts lines places list eighth → places ≡ Some p → eighth ≡ None → LinesNameTasks lines (tasks_with p list)
  drafted_said places p list eighth d is none = all_said p list (subst (λ o. IsTasksDraftOfParts lines (Some p) list o) none (subst (λ o. IsTasksDraftOfParts lines o list eighth) is d))

  pub against : (tasks : TasksData) (e : TasksErr) → LinesNameTasks lines tasks → IsTaskErr plan lines tasks e → IsResultOfTaskText plan lines (Err e)
  against tasks (BadLine n) said bad = absurd bad
  against tasks Count said bad = absurd bad
  against tasks _ said bad = (tasks, said, bad)

-- ---- the tests under a plan
-- what a test denies doesn't hold
pub denied : (b : Bool) (P : Type 0) → b ≡ false → (IsTrue b → P) × (P → IsTrue b) → P → ⊥
denied b P fails both p = absurd (let f : false ≡ true = sym fails ∙ both.1 p in cc)

module _ (plan : PlanData) (tasks : TasksData) (are : AreTasks tasks) where
  few : (2 ≤ count tasks) × (count tasks ≤ 7)
  few = (are.some, are.few)

  pub not_ram : (lines : List (List ℕ)) → (IsBlockInRam plan tasks → ⊥) → IsTaskErr plan lines tasks NotRam
  not_ram lines none = (few, none)

  pub no_room : (lines : List (List ℕ)) → IsBlockInRam plan tasks → (HasRoomForViews plan tasks → ⊥) → IsTaskErr plan lines tasks NoRoom
  no_room lines ram none = (few, ram, none)

  pub on_isp : (lines : List (List ℕ)) (fields : PlanData) → fields ≡ plan → IsBlockInRam plan tasks → HasRoomForViews plan tasks → fields.start_is ≡ true → IsTaskErr plan lines tasks OnIsp
  on_isp lines fields same ram room is = (few, ram, room, sym (ap (λ (p : PlanData). p.start_is) same) ∙ is)

  pub they_fit : (fields : PlanData) → fields ≡ plan → IsBlockInRam plan tasks → HasRoomForViews plan tasks → fields.start_is ≡ false → TasksFitPlan plan tasks
  they_fit fields same ram room is = record { in_ram = ram; room = room; own_stack = sym (ap (λ (p : PlanData). p.start_is) same) ∙ is }

-- ---- tasks read one after another
abbrev HasWords : Task → Type 0
HasWords t = (t.entry < 2 ^ 32) × (t.sp < 2 ^ 32)

same_task : (list : List Task) (k : ℕ) (d e : Task) → k < length list → get_or list k d ≡ get_or list k e
same_task [] k d e lt = absurd (omega arith)
same_task (t ∷ ts) zero d e lt = refl
same_task (t ∷ ts) (suc k) d e lt = same_task ts k d e (omega arith)

pub words_more : (list : List Task) (i : ℕ) (e : Task) → i < length list → ((k : ℕ) (d : Task) → k < i → HasWords (get_or list k d)) → HasWords (get_or list i e) → (k : ℕ) (d : Task) → k < i + 1 → HasWords (get_or list k d)
words_more list i e lt before here k d less =
    elim (cases_lt k i) [
      | inl earlier ↦ before k d earlier
      | inr from ↦ let same : k ≡ i = omega arith in subst (λ n. HasWords (get_or list n d)) (sym same) (subst HasWords (same_task list i e d lt) here)
    ]
