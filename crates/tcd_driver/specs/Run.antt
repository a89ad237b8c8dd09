-- What `run` reads and reports.
use Rattle.std.specs.Prelude.{◌≡◌, ℕ, List, length}
use Rattle.elf_image.specs.Images.{ImageData}
use Rattle.tcd_plan.specs.PlanData.{PlanData}
use Rattle.tc_machine.specs.declared.state.Machine.{Machine}
use Rattle.tc_machine.specs.Starting.{IsZeroFilledStart}
use Rattle.tc_machine.specs.Stepping as stepping
use Rattle.tc_machine.specs.Safe.{AllFit}
use Rattle.tc_script.specs.ScriptData.{ScriptData}
use Rattle.tc_script.specs.DrivenRuns.{driven_peak}
use Rattle.tc_script.specs.ScriptRuns.{script_events}
use Rattle.tcd_reading.specs.Reports.{Report, text_report}
use Rattle.tcd_reading.specs.Inputs.{Reading, input, answer}
use Rattle.tcd_forms.specs.Forms.{elf_form, plan_form, script_form}
use Rattle.tcd_forms.specs.Lines.{run_line}
use Rattle.tcd_reading.specs.declared.status.Status.TheVariants.{Done}

-- the names of the files that `run` reads: an executable, a plan, and a turn script
pub record RunArgs : Type 0 where
  pub elf : List ℕ
  pub plan : List ℕ
  pub script : List ℕ

-- the line on the run of the script's events from a start state
abbrev pub script_run_line : PlanData → ScriptData → Machine → List ℕ
script_run_line plan script m =
    run_line (length (script_events plan script m)) (driven_peak m (script_events plan script m)) (stepping.run m (script_events plan script m))

-- the report of `run`: the machine starts with 0 for all that the plan leaves open, and runs the
-- script's events, which fit the plan
pub data IsRunReport (image : ImageData) (plan : PlanData) (script : ScriptData) (report : Report) : Type 0 where
  ran :
      (m : Machine) → IsZeroFilledStart image plan m → AllFit plan m (script_events plan script m) → report ≡ text_report Done (script_run_line plan script m)
      → IsRunReport image plan script report

-- an executable, a plan and a turn script for the plan are read; then the run is reported
abbrev pub run_reading : RunArgs → Reading
run_reading names =
    input ImageData elf_form names.elf
    (λ image. input PlanData plan_form names.plan (λ plan. input ScriptData (script_form plan) names.script (λ script. answer (IsRunReport image plan script))))
