-- Runs by a script that answers for the peripherals: there is one list of events.
use Rattle.std.specs.Prelude.{◌≡◌, ℕ, ◌+◌, if◌then◌else◌, List, ◌∷◌, length, Option, Some, None, []}
use Rattle.tcd_plan.specs.declared.plans.Device.{Device}
use Rattle.tcd_plan.specs.PlanData.{PlanData}
use Rattle.tc_machine.specs.declared.events.Event.{Event}
use Rattle.tc_machine.specs.declared.events.End.{End}
use Rattle.tc_machine.specs.declared.events.End.TheVariants.{Running, Dead}
use Rattle.tc_machine.specs.declared.state.Machine.{Machine}
use Rattle.tc_machine.specs.Stepping.{step, run, next_load_of}
use Rattle.tc_machine.specs.Safe.{AllFit}
use Rattle.tc_script.specs.declared.driving.Peak.{Peak}
use Rattle.tc_script.specs.declared.scripts.Turn.{Turn}
use Rattle.tc_script.specs.declared.scripts.AnswerRange.{AnswerRange}
use Rattle.tc_script.specs.ScriptData.{ScriptData}
use Rattle.tc_script.specs.DrivenRuns.{DeviceAnswers, AreDrivenEvents, driven_peak}
use Rattle.tc_script.specs.Ports.{device_answer_at, is_in_device}

-- in a run by a script, the input at an event: the answer at the load's address if the load is
-- wholly inside one peripheral range, else 0
abbrev pub script_input_of : List Device → List AnswerRange → ℕ → Option (ℕ × ℕ) → ℕ
script_input_of devices bounds t None = 0
script_input_of devices bounds t (Some load) = if is_in_device load.0 load.1 devices then device_answer_at devices bounds load.0 t else 0

-- the event of a turn
abbrev pub script_event_of : List Device → List AnswerRange → ℕ → Turn → Machine → Event
script_event_of devices bounds t turn m = record { irq = turn.irq; input = script_input_of devices bounds t (next_load_of m); status = 0; aln = turn.aln }

-- the events of a script from a machine on: these if the machine runs, none if it is dead
abbrev pub events_while_running : End → List Event → List Event
events_while_running Running events = events
events_while_running (Dead cause) events = []

-- the events of these turns until the machine is dead or the turns end; the first one has this
-- number
abbrev pub events_of_turns : List Device → List AnswerRange → ℕ → List Turn → Machine → List Event
events_of_turns devices bounds t [] m = []
events_of_turns devices bounds t (turn ∷ turns) m =
    let e = script_event_of devices bounds t turn m in
    events_while_running m.end (e ∷ events_of_turns devices bounds (t + 1) turns (step m e))

-- all events of a script
abbrev pub script_events : PlanData → ScriptData → Machine → List Event
script_events plan script m = events_of_turns plan.devices script.bounds 0 script.turns m

-- the answers of the peripherals by a script
abbrev pub script_answers : PlanData → ScriptData → DeviceAnswers
script_answers plan script = λ x t w. w ≡ device_answer_at plan.devices script.bounds x t

-- the events are one for each turn of the script, until the machine is dead or the turns end, with
-- the script's answers
abbrev pub AreScriptEvents : PlanData → ScriptData → Machine → List Event → Type 0
AreScriptEvents plan script m es = AreDrivenEvents plan (script_answers plan script) 0 script.turns m es

-- from a machine, a script has one list of events
abbrev pub ScriptHasOneRun : Type 0
ScriptHasOneRun = (plan : PlanData) (script : ScriptData) (m : Machine) (es : List Event) → AreScriptEvents plan script m es → es ≡ script_events plan script m

-- the machine is driven by a script
pub record IsScriptRun (plan : PlanData) (script : ScriptData) (old new : Machine) (done : Peak) : Type 0 where
  pub scripted : AreScriptEvents plan script old (script_events plan script old)
  pub fits : AllFit plan old (script_events plan script old)
  pub after : new ≡ run old (script_events plan script old)
  pub count : done.events ≡ length (script_events plan script old)
  pub peak : done.peak ≡ driven_peak old (script_events plan script old)
