-- A script that answers for the peripherals has one list of events.
use Rattle.std.proofs.Common.{◌≡◌, ℕ, ◌+◌, ◌⊎◌, inl, inr, Bool, List, [], ◌∷◌, length, Option, Some, None, refl, sym, ap, subst, ◌∙◌}
use Rattle.std.specs.List.{list_any}
use Rattle.std.proofs.lemmas.Bool.{cond-true, cond-false, cases_Bool}
use Rattle.tcd_plan.specs.declared.plans.Device.{Device}
use Rattle.tcd_plan.specs.PlanData.{PlanData}
use Rattle.tc_machine.specs.declared.events.Event.{Event}
use Rattle.tc_machine.specs.declared.events.End.{End}
use Rattle.tc_machine.specs.declared.events.End.TheVariants.{Running, Dead}
use Rattle.tc_machine.specs.declared.state.Machine.{Machine}
use Rattle.tc_machine.specs.Stepping.{step, run, next_load_of}
use Rattle.tc_machine.specs.Safe.{AllFit}
use Rattle.tc_script.specs.declared.driving.Peak.{Peak}
use Rattle.tc_script.specs.declared.scripts.Turn.{Turn}
use Rattle.tc_script.specs.declared.scripts.AnswerRange.{AnswerRange}
use Rattle.tc_script.specs.ScriptData.{ScriptData}
use Rattle.tcd_base.specs.Ranges.{is_within_range}
use Rattle.tc_script.specs.DrivenRuns.{DeviceAnswers, IsDrivenInput, IsEventOfTurn, AreDrivenEvents, driven_peak, IsDrivenRun}
use Rattle.tc_machine.specs.Machine.{IsDead}
use Rattle.tc_script.specs.ScriptRuns.{script_input_of, script_event_of, events_while_running, events_of_turns, script_answers, AreScriptEvents, ScriptHasOneRun, IsScriptRun}
use Rattle.tc_script.specs.Ports.{device_answer_at}
use Rattle.tc_script.proofs.Events.{inside, in_one-true}

-- the answers are those of the script
abbrev pub AnswersBy : List Device → List AnswerRange → DeviceAnswers → Type 0
AnswersBy devices bounds answers = (x t w : ℕ) → answers x t w → w ≡ device_answer_at devices bounds x t

input_is : (devices : List Device) (bounds : List AnswerRange) (answers : DeviceAnswers) → AnswersBy devices bounds answers → (t : ℕ) (load : Option (ℕ × ℕ)) (w : ℕ) → IsDrivenInput devices answers t load w → w ≡ script_input_of devices bounds t load
input_is devices bounds answers by t None w is = is
input_is devices bounds answers by t (Some load) w (inl is) = by load.0 t w is.1 ∙ sym (cond-true _ _ 0 (in_one-true load.0 load.1 devices is.0))
input_is devices bounds answers by t (Some load) w (inr is) =
    elim (cases_Bool (list_any (λ d. is_within_range load.0 load.1 d.range) devices)) [
      | inl there ↦ absurd (is.0 (inside load.0 load.1 devices there))
      | inr none ↦ is.1 ∙ sym (cond-false _ (device_answer_at devices bounds load.0 t) 0 none)
    ]

abbrev made : ℕ → ℕ → ℕ → Bool → Event
made irq input status aln = record { irq = irq; input = input; status = status; aln = aln }

event_is : (devices : List Device) (bounds : List AnswerRange) (answers : DeviceAnswers) → AnswersBy devices bounds answers → (t : ℕ) (turn : Turn) (m : Machine) (e : Event) → IsEventOfTurn devices answers t turn m e → e ≡ script_event_of devices bounds t turn m
event_is devices bounds answers by t turn m e is =
    let input = input_is devices bounds answers by t (next_load_of m) e.input is.input in
    ap (λ n. made n e.input e.status e.aln) is.irq
    ∙ ap (λ n. made turn.irq n e.status e.aln) input
    ∙ ap (λ n. made turn.irq (script_input_of devices bounds t (next_load_of m)) n e.aln) is.status
    ∙ ap (λ b. made turn.irq (script_input_of devices bounds t (next_load_of m)) 0 b) is.aln

dead_end : (end : End) (es : List Event) → IsDead end → events_while_running end es ≡ []
dead_end Running es is = absurd is
dead_end (Dead cause) es is = refl

running_end : (end : End) (es : List Event) → end ≡ Running → events_while_running end es ≡ es
running_end end es is = ap (λ x. events_while_running x es) is

nothing : (plan : PlanData) (bounds : List AnswerRange) (t : ℕ) (turns : List Turn) (m : Machine) → (turns ≡ []) ⊎ IsDead m.end → [] ≡ events_of_turns plan.devices bounds t turns m
nothing plan bounds t [] m end = refl
nothing plan bounds t (turn ∷ turns) m (inl none) = cc
nothing plan bounds t (turn ∷ turns) m (inr dead) = sym (dead_end m.end _ dead)

-- the list of events of a scripted run
pub only : (plan : PlanData) (bounds : List AnswerRange) (answers : DeviceAnswers) → AnswersBy plan.devices bounds answers → (t : ℕ) (turns : List Turn) (m : Machine) (es : List Event) → AreDrivenEvents plan answers t turns m es → es ≡ events_of_turns plan.devices bounds t turns m
only plan bounds answers by t turns m [] end = nothing plan bounds t turns m end
only plan bounds answers by t [] m (e ∷ es) h = absurd h
only plan bounds answers by t (turn ∷ turns) m (e ∷ es) h =
    let same = event_is plan.devices bounds answers by t turn m e h.1 in
    ap (λ x. x ∷ es) same
    ∙ ap (λ xs. script_event_of plan.devices bounds t turn m ∷ xs) (only plan bounds answers by (t + 1) turns (step m e) es h.2)
    ∙ ap (λ x. script_event_of plan.devices bounds t turn m ∷ events_of_turns plan.devices bounds (t + 1) turns (step m x)) same
    ∙ sym (running_end m.end _ h.0)

-- ---- answers that are among others
input_by : (devices : List Device) (some all : DeviceAnswers) → ((x t w : ℕ) → some x t w → all x t w) → (t : ℕ) (load : Option (ℕ × ℕ)) (w : ℕ) → IsDrivenInput devices some t load w → IsDrivenInput devices all t load w
input_by devices some all among t None w is = is
input_by devices some all among t (Some load) w (inl is) = inl (is.0, among load.0 t w is.1)
input_by devices some all among t (Some load) w (inr is) = inr is

scripted_by : (plan : PlanData) (some all : DeviceAnswers) → ((x t w : ℕ) → some x t w → all x t w) → (t : ℕ) (turns : List Turn) (m : Machine) (es : List Event) → AreDrivenEvents plan some t turns m es → AreDrivenEvents plan all t turns m es
scripted_by plan some all among t turns m [] end = end
scripted_by plan some all among t [] m (e ∷ es) h = absurd h
scripted_by plan some all among t (turn ∷ turns) m (e ∷ es) h =
    let e1 = h.1 in (
      h.0,
      record { irq = e1.irq; aln = e1.aln; status = e1.status; input = input_by plan.devices some all among t (next_load_of m) e.input e1.input },
      scripted_by plan some all among (t + 1) turns (step m e) es h.2,
    )

-- the events of a script are the only ones
pub has_one_run : ScriptHasOneRun
has_one_run plan script m es h = only plan script.bounds (script_answers plan script) (λ x t w is. is) 0 script.turns m es h

-- a machine that is driven by answers of the script
pub script_run : {plan : PlanData} {answers : DeviceAnswers} {old new : Machine} {done : Peak} (script : ScriptData) → IsDrivenRun plan answers script.turns old new done → AnswersBy plan.devices script.bounds answers → IsScriptRun plan script old new done
script_run {plan} {answers} {old} {new} {done} script d by =
    let same = only plan script.bounds answers by 0 script.turns old d.events d.scripted in
    record {
      scripted = subst (AreScriptEvents plan script old) same (scripted_by plan answers (script_answers plan script) by 0 script.turns old d.events d.scripted);
      fits = subst (AllFit plan old) same d.fits;
      after = d.after ∙ ap (run old) same;
      count = d.count ∙ ap length same;
      peak = d.peak ∙ ap (driven_peak old) same;
    }
