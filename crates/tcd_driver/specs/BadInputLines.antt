-- The printed lines for arguments that are no command, and on faults of boot sequences and of input
-- files.
use Rattle.std.specs.Prelude.{ℕ, List, ◌∷◌, ◌++◌, codes, ◌≡◌, ◌≢◌, Err, []}
use Rattle.std.specs.Fmt.{decimal}
use Rattle.tc_object.specs.Grammar.{object_of}
use Rattle.tc_link.specs.LayoutFaults.{layout_of}
use Rattle.tc_link.specs.declared.layout_errors.LayoutErr.{LayoutErr}
use Rattle.tcd_base.specs.declared.errors.FormErr.{FormErr}
use Rattle.tcd_forms.specs.Lines.{bad_elf_line, bad_plan_line, bad_script_line, bad_layout_line, line_end_with_number}
use Rattle.value_cells.specs.declared.errors.CellsErr.{CellsErr}
use Rattle.task_chains.specs.declared.task_lists.TasksErr.{TasksErr}
use Rattle.value_cells.specs.declared.errors.CellsErr.TheVariants as cell
use Rattle.task_chains.specs.declared.task_lists.TasksErr.TheVariants as task
use Rattle.elf_image.specs.ReadElf.{image_of_file}
use Rattle.elf_image.specs.declared.errors.ImageErr.{ImageErr}
use Rattle.tcd_plan.specs.PlanData.{PlanData}
use Rattle.tcd_plan.specs.PlanReader.{IsPlanResult}
use Rattle.tcd_plan.specs.declared.plans.PlanErr.{PlanErr}
use Rattle.tcd_plan.specs.declared.plans.PlanErr.TheVariants.{NoMemory}
use Rattle.depth_cert.specs.Grammar.{certificate_of}
use Rattle.tc_script.specs.ScriptText.{script_of}
use Rattle.tc_script.specs.declared.errors.ScriptErr.{ScriptErr}
use Rattle.tcd_text.specs.Lines.{text_lines}
use Rattle.value_cells.specs.CellListText as cells
use Rattle.task_chains.specs.TaskListText as tasks
use Rattle.tc_stmt.specs.Lines.{lines_in}
use Rattle.tc_asm.specs.Rules.{IsFirstBadLine}

-- the driver's line `bad words`, for arguments that are no command
unfoldable pub bad_words_line : List ℕ
bad_words_line = codes "bad words" ++ 10 ∷ []

-- the bytes are no executable, and this bad-input line has their first fault
abbrev pub IsNoImage : List ℕ → List ℕ → Type 0
IsNoImage bytes line = (e : ImageErr) × (image_of_file bytes ≡ Err e) × (line ≡ bad_elf_line e)

-- the bytes are no plan, and this bad-input line has their first fault
abbrev pub IsNoPlan : List ℕ → List ℕ → Type 0
IsNoPlan bytes line = (e : PlanErr) × IsPlanResult bytes (Err e) × (e ≢ NoMemory) × (line ≡ bad_plan_line e)

-- the bytes are no certificate, and this is the line: the number of the first fault, and its offset
abbrev pub IsNoCert : List ℕ → List ℕ → Type 0
IsNoCert bytes line = (e : FormErr) × (certificate_of bytes ≡ Err e) × (line ≡ codes "bad cert " ++ (decimal e.kind ++ (codes " at " ++ (decimal e.at ++ 10 ∷ []))))

-- the bytes are no turn script for the plan, and this bad-input line has their first fault
abbrev pub IsNoScript : PlanData → List ℕ → List ℕ → Type 0
IsNoScript plan bytes line = (e : ScriptErr) × (script_of plan bytes ≡ Err e) × (line ≡ bad_script_line e)

-- the bytes are no layout, and this bad-input line has their first fault
abbrev pub IsNoLayout : List ℕ → List ℕ → Type 0
IsNoLayout bytes line = (e : LayoutErr) × (layout_of bytes ≡ Err e) × (line ≡ bad_layout_line e)

-- the bytes are no object, and this bad-input line has their first fault: its number, the object's
-- place among those named, and its offset
abbrev pub IsNoObject : ℕ → List ℕ → List ℕ → Type 0
IsNoObject place bytes line =
    (e : FormErr) × (object_of bytes ≡ Err e)
    × (line ≡ codes "bad object " ++ (decimal e.kind ++ (codes " at " ++ (decimal place ++ (codes " " ++ (decimal e.at ++ 10 ∷ []))))))

-- the driver's line on why a file isn't in the form of cells: the number of the fault, and its line
unfoldable pub bad_cells_line : CellsErr → List ℕ
bad_cells_line (cell.BadLine n) = codes "bad cells 1" ++ line_end_with_number n
bad_cells_line (cell.NotRam n) = codes "bad cells 2" ++ line_end_with_number n
bad_cells_line (cell.Twice n) = codes "bad cells 3" ++ line_end_with_number n
bad_cells_line (cell.TooMany n) = codes "bad cells 4" ++ line_end_with_number n

-- the driver's bad-input line `bad tasks`, on a fault in a file of tasks or in the count of
-- certificates: the number of the fault, and for the first two its line
unfoldable pub bad_tasks_line : TasksErr → List ℕ
bad_tasks_line (task.BadLine n) = codes "bad tasks 1" ++ line_end_with_number n
bad_tasks_line (task.TooMany n) = codes "bad tasks 2" ++ line_end_with_number n
bad_tasks_line task.TooFew = codes "bad tasks 3" ++ 10 ∷ []
bad_tasks_line task.NotRam = codes "bad tasks 4" ++ 10 ∷ []
bad_tasks_line task.NoRoom = codes "bad tasks 5" ++ 10 ∷ []
bad_tasks_line task.OnIsp = codes "bad tasks 6" ++ 10 ∷ []
bad_tasks_line task.Count = codes "bad tasks 7" ++ 10 ∷ []

-- the bytes are no cells of the plan, and this bad-input line has their first fault
abbrev pub AreNoCells : PlanData → List ℕ → List ℕ → Type 0
AreNoCells plan bytes line = (e : CellsErr) × cells.IsResultOfCellText plan bytes (Err e) × (line ≡ bad_cells_line e)

-- the bytes are no tasks of the plan, and this bad-input line has their first fault
abbrev pub AreNoTasks : PlanData → List ℕ → List ℕ → Type 0
AreNoTasks plan bytes line = (e : TasksErr) × tasks.IsResultOfTaskText plan (text_lines bytes) (Err e) × (line ≡ bad_tasks_line e)

-- the driver's bad-input line `bad source`: the rule that a source breaks, its place among the
-- sources that are named, and the number of the line in it
abbrev pub bad_source_line_text : ℕ → ℕ → ℕ → List ℕ
bad_source_line_text rule place line = codes "bad source " ++ (decimal rule ++ (codes " at " ++ (decimal place ++ (codes " " ++ (decimal line ++ 10 ∷ [])))))

-- a line of the source breaks a rule, and this bad-input line has the source's place, the first
-- such line, and its least rule
abbrev pub SourceBreaksRule : ℕ → List ℕ → List ℕ → Type 0
SourceBreaksRule place bytes printed = (line : ℕ) × (rule : ℕ) × IsFirstBadLine (lines_in bytes) line rule × (printed ≡ bad_source_line_text rule place line)
