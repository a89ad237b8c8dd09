-- The text of tasks: the tasks that its lines name for a plan, or its error.
use Rattle.std.specs.Prelude.{◌≡◌, ◌≢◌, ◌+◌, ◌%◌, ◌<◌, ◌≤◌, ◌==◌, ◌&&◌, ◌⊎◌, ℕ, true, if◌then◌else◌, List, ◌∷◌, ◌++◌, length, codes, map, filter, take, Option, Some, None, Result, Ok, Err, []}
use Rattle.std.specs.Bool.{then_some}
use Rattle.std.specs.Option.{option_and_then, option_map}
use Rattle.std.specs.Str.{bytes_eq}
use Rattle.tcd_plan.specs.PlanData.{PlanData}
use Rattle.tcd_base.specs.Ranges.{IsInOneRange}
use Rattle.tcd_text.specs.Lines.{line_words, is_nonempty_line}
use Rattle.tcd_text.specs.HexNumbers.{hex_number_of}
use Rattle.task_chains.specs.declared.lines.Places.{Places}
use Rattle.task_chains.specs.declared.drafts.TasksDraft.{TasksDraft}
use Rattle.task_chains.specs.declared.task_lists.Task.{Task}
use Rattle.task_chains.specs.declared.task_lists.TasksErr.{TasksErr}
use Rattle.task_chains.specs.declared.task_lists.TasksErr.TheVariants.{BadLine, TooMany, TooFew, NotRam, NoRoom, OnIsp, Count}
use Rattle.task_chains.specs.Tasks.{TasksData, AreTasks, count, block_size}
use Rattle.task_chains.specs.Views.{TasksFitPlan}
use Rattle.task_chains.specs.Devices.{view_devices}

-- ---- lines; the grammar is the project's own
-- the two numbers of the words `NAME X Y`, each of eight upper-case hex digits; else None
unfoldable pub number_pair_of_words : List ℕ → List (List ℕ) → Option (ℕ × ℕ)
number_pair_of_words name (word ∷ x ∷ y ∷ []) =
    if bytes_eq word name then option_and_then (λ a. option_map (λ b. (a, b)) (hex_number_of y)) (hex_number_of x) else None
number_pair_of_words name words = None

-- the addresses of the routine and of the block, if the one is even and the other a multiple of 4
abbrev pub switch_addresses_of_pair : ℕ × ℕ → Option Places
switch_addresses_of_pair p = then_some (p.0 % 2 == 0 && p.1 % 4 == 0) (record { switch = p.0; block = p.1 })

-- the addresses of a line `switch Y B`, if the line has this form
abbrev pub switch_addresses_of : List ℕ → Option Places
switch_addresses_of line = option_and_then switch_addresses_of_pair (number_pair_of_words (codes "switch") (line_words line))

-- the task of a line's two numbers: its entry and its stack pointer
abbrev pub task_of_pair : ℕ × ℕ → Task
task_of_pair p = record { entry = p.0; sp = p.1 }

-- the task of a line `task ENTRY SP`
abbrev pub task_of : List ℕ → Option Task
task_of line = option_map task_of_pair (number_pair_of_words (codes "task") (line_words line))

-- ---- texts

-- the lines of a text that aren't empty
abbrev pub nonempty_task_lines : List (List ℕ) → List (List ℕ)
nonempty_task_lines lines = filter is_nonempty_line lines

-- the first line that isn't empty names the addresses, and the later ones name the tasks
pub record LinesNameTasks (lines : List (List ℕ)) (tasks : TasksData) : Type 0 where
  pub first : List ℕ
  pub behind : List (List ℕ)
  pub split : nonempty_task_lines lines ≡ first ∷ behind
  pub places : switch_addresses_of first ≡ Some (record { switch = tasks.switch; block = tasks.block })
  pub named : map task_of behind ≡ map (λ t. Some t) tasks.list

-- ---- what may be against a text
-- a line of another form after these: the first line that isn't empty and names no addresses, or a
-- later one that names no task
abbrev pub BreaksTaskForm : List (List ℕ) → List ℕ → Type 0
BreaksTaskForm before line =
    (line ≢ []) × (((nonempty_task_lines before ≡ []) × (switch_addresses_of line ≡ None)) ⊎ (((tasks : TasksData) × LinesNameTasks before tasks) × (task_of line ≡ None)))

-- line n, counted from 1, is the first of another form
pub record IsFirstBadTaskLine (lines : List (List ℕ)) (n : ℕ) : Type 0 where
  pub before : List (List ℕ)
  pub line : List ℕ
  pub behind : List (List ℕ)
  pub split : lines ≡ before ++ line ∷ behind
  pub at : n ≡ length before + 1
  pub breaks : BreaksTaskForm before line

-- line n is the first of another form; if all lines are empty, n is 1
abbrev pub IsBadTaskLine : List (List ℕ) → ℕ → Type 0
IsBadTaskLine lines n = ((nonempty_task_lines lines ≡ []) × (n ≡ 1)) ⊎ IsFirstBadTaskLine lines n

-- line n names an eighth task
pub record IsEighthTaskLine (lines : List (List ℕ)) (n : ℕ) : Type 0 where
  pub before : List (List ℕ)
  pub line : List ℕ
  pub behind : List (List ℕ)
  pub split : lines ≡ before ++ line ∷ behind
  pub at : n ≡ length before + 1
  pub some : line ≢ []
  pub seven : TasksData
  pub said : LinesNameTasks before seven
  pub many : count seven ≡ 7

-- for the errors of a text of tasks: it names two to seven tasks
abbrev pub AreTwoToSevenTasks : TasksData → Type 0
AreTwoToSevenTasks tasks = (2 ≤ count tasks) × (count tasks ≤ 7)

-- for the errors of a text of tasks: the block that it names is inside one ram range of the plan
abbrev pub IsBlockInRam : PlanData → TasksData → Type 0
IsBlockInRam plan tasks = IsInOneRange tasks.block (block_size tasks) plan.ram

-- for the errors of a text of tasks: the plan of a task's view has at most 16 peripherals, a plan's
-- limit
abbrev pub HasRoomForViews : PlanData → TasksData → Type 0
HasRoomForViews plan tasks = length (view_devices plan tasks) ≤ 16

-- The error of the tasks that lines name, under a plan: the first of these that fits. A line of
-- another form comes before all of them.
abbrev pub IsTaskErr : PlanData → List (List ℕ) → TasksData → TasksErr → Type 0
IsTaskErr plan lines tasks (BadLine n) = ⊥
IsTaskErr plan lines tasks (TooMany n) = IsEighthTaskLine lines n
IsTaskErr plan lines tasks TooFew = count tasks < 2
IsTaskErr plan lines tasks NotRam = AreTwoToSevenTasks tasks × (IsBlockInRam plan tasks → ⊥)
IsTaskErr plan lines tasks NoRoom = AreTwoToSevenTasks tasks × IsBlockInRam plan tasks × (HasRoomForViews plan tasks → ⊥)
IsTaskErr plan lines tasks OnIsp = AreTwoToSevenTasks tasks × IsBlockInRam plan tasks × HasRoomForViews plan tasks × (plan.start_is ≡ true)
IsTaskErr plan lines tasks Count = ⊥

-- the error of a text of tasks: that of the first line of another form, or that of the tasks that
-- all lines name
abbrev pub IsErrOfTaskText : PlanData → List (List ℕ) → TasksErr → Type 0
IsErrOfTaskText plan lines (BadLine n) = IsBadTaskLine lines n
IsErrOfTaskText plan lines e = (tasks : TasksData) × LinesNameTasks lines tasks × IsTaskErr plan lines tasks e

-- the lines name these tasks, and they fit the plan
pub record AreTasksOfText (plan : PlanData) (lines : List (List ℕ)) (tasks : TasksData) : Type 0 where
  pub said : LinesNameTasks lines tasks
  pub are : AreTasks tasks
  pub fit : TasksFitPlan plan tasks

-- the result of reading a text of tasks: those that its lines name, if they fit the plan, or the
-- error
abbrev pub IsResultOfTaskText : PlanData → List (List ℕ) → Result TasksData TasksErr → Type 0
IsResultOfTaskText plan lines (Ok tasks) = AreTasksOfText plan lines tasks
IsResultOfTaskText plan lines (Err e) = IsErrOfTaskText plan lines e

-- ---- lines read one after another
-- tasks with their routine's addresses
abbrev pub tasks_with : Places → List Task → TasksData
tasks_with places list = record { switch = places.switch; block = places.block; list = list }

-- at most seven tasks, or the line of an eighth
abbrev pub IsEighthTaskLineIfAny : List (List ℕ) → TasksData → Option ℕ → Type 0
IsEighthTaskLineIfAny lines tasks None = count tasks ≤ 7
IsEighthTaskLineIfAny lines tasks (Some n) = IsEighthTaskLine lines n

-- the draft has the first seven tasks that the lines name, and the number of the line that names an
-- eighth
pub record HasFirstSevenTasks (lines : List (List ℕ)) (places : Places) (list : List Task) (eighth : Option ℕ) : Type 0 where
  pub all : List Task
  pub said : LinesNameTasks lines (tasks_with places all)
  pub seven : list ≡ take 7 all
  pub more : IsEighthTaskLineIfAny lines (tasks_with places all) eighth

-- a draft with these parts is that of the lines so far; without addresses all lines are empty
abbrev pub IsTasksDraftOfParts : List (List ℕ) → Option Places → List Task → Option ℕ → Type 0
IsTasksDraftOfParts lines None list eighth = (nonempty_task_lines lines ≡ []) × (list ≡ []) × (eighth ≡ None)
IsTasksDraftOfParts lines (Some places) list eighth = HasFirstSevenTasks lines places list eighth

-- the draft of these lines of a text of tasks
abbrev pub IsTasksDraftOf : List (List ℕ) → TasksDraft → Type 0
IsTasksDraftOf lines d = IsTasksDraftOfParts lines d.places d.list.items d.eighth

-- the draft of a text of tasks after one line more, whose number this is
abbrev pub IsTasksDraftAfterLine : TasksDraft → ℕ → List ℕ → TasksDraft → Type 0
IsTasksDraftAfterLine old n line new = (before : List (List ℕ)) → IsTasksDraftOf before old → n ≡ length before + 1 → IsTasksDraftOf (before ++ line ∷ []) new

-- the error is BadLine n for line n of another form, which comes after the draft's lines
abbrev pub IsErrOfTaskLine : TasksDraft → ℕ → List ℕ → TasksErr → Type 0
IsErrOfTaskLine old n line e = (e ≡ BadLine n) × ((before : List (List ℕ)) → IsTasksDraftOf before old → BreaksTaskForm before line)

-- ---- the law
-- For each plan the lines of a text of tasks have one answer: one list of tasks, or one error.
abbrev pub TaskTextHasOneResult : Type 0
TaskTextHasOneResult = (plan : PlanData) (lines : List (List ℕ)) (r s : Result TasksData TasksErr) → IsResultOfTaskText plan lines r → IsResultOfTaskText plan lines s → r ≡ s
