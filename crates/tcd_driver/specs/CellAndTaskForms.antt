-- The forms of files of cells and of tasks.
use Rattle.std.specs.Prelude.{◌≡◌, ◌^◌, List, Ok, Err}
use Rattle.tcd_plan.specs.PlanData.{PlanData}
use Rattle.value_cells.specs.CellListText.{IsResultOfCellText}
use Rattle.value_cells.specs.declared.cells.Cell.{Cell}
use Rattle.value_cells.specs.declared.errors.CellsErr.{CellsErr}
use Rattle.tcd_reading.specs.Inputs.{FormSeen}
use Rattle.tcd_text.specs.Lines.{text_lines}
use Rattle.task_chains.specs.Tasks.{TasksData}
use Rattle.task_chains.specs.TaskListText as tasks
use Rattle.task_chains.specs.declared.task_lists.TasksErr.{TasksErr}
use Rattle.tcd_forms.specs.Lines.{cells_too_long_line, tasks_too_long_line}
use Rattle.tcd_driver.specs.BadInputLines.{bad_cells_line, bad_tasks_line}

-- the form of files of cells for a plan: the limit in bytes, the cells that the bytes are, and the
-- lines on bad files
abbrev pub cells_form : PlanData → FormSeen (List Cell)
cells_form p = record {
  limit = 2 ^ 24;
  too_long_line = cells_too_long_line;
  Is = λ bytes cells. IsResultOfCellText p bytes (Ok cells);
  IsBad = λ bytes text. (e : CellsErr) × IsResultOfCellText p bytes (Err e) × (text ≡ bad_cells_line e);
}

-- the form of files of tasks for a plan: the limit in bytes, the tasks that the bytes are, and the
-- lines on bad files
abbrev pub tasks_form : PlanData → FormSeen TasksData
tasks_form p = record {
  limit = 2 ^ 24;
  too_long_line = tasks_too_long_line;
  Is = λ bytes list. tasks.IsResultOfTaskText p (text_lines bytes) (Ok list);
  IsBad = λ bytes text. (e : TasksErr) × tasks.IsResultOfTaskText p (text_lines bytes) (Err e) × (text ≡ bad_tasks_line e);
}
