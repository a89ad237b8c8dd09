-- Runs of the machine by the turns of a script.
use Rattle.std.specs.Prelude.{◌≡◌, ℕ, ◌+◌, ◌⊎◌, max, unwrap_or, List, ◌∷◌, length, Option, Some, None, []}
use Rattle.tcd_plan.specs.declared.plans.Device.{Device}
use Rattle.tcd_plan.specs.PlanData.{PlanData}
use Rattle.tc_machine.specs.declared.events.Event.{Event}
use Rattle.tc_machine.specs.declared.events.End.TheVariants.{Running}
use Rattle.tc_machine.specs.declared.state.Machine.{Machine}
use Rattle.tcd_plan.specs.MappedAddresses.{IsInDevice}
use Rattle.tc_machine.specs.Stepping.{step, run, next_load_of, used_area_count}
use Rattle.tc_machine.specs.Safe.{AllFit}
use Rattle.tc_script.specs.declared.driving.Peak.{Peak}
use Rattle.tc_script.specs.declared.scripts.Turn.{Turn}
use Rattle.tc_machine.specs.Machine.{IsDead}

-- the answers that a run is driven with: the words that are possible at an address and at the
-- number of an event
abbrev pub DeviceAnswers : Type 1
DeviceAnswers = ℕ → ℕ → ℕ → Type 0

-- The input at an event: an answer for the load's address if the load is wholly inside one
-- peripheral range, else 0.
abbrev pub IsDrivenInput : List Device → DeviceAnswers → ℕ → Option (ℕ × ℕ) → ℕ → Type 0
IsDrivenInput devices answers t None input = input ≡ 0
IsDrivenInput devices answers t (Some load) input =
    (IsInDevice load.0 load.1 devices × answers load.0 t input) ⊎ ((IsInDevice load.0 load.1 devices → ⊥) × (input ≡ 0))

-- in a driven run: the event of a turn, with a word that the answers make possible as its input
pub record IsEventOfTurn (devices : List Device) (answers : DeviceAnswers) (t : ℕ) (turn : Turn) (m : Machine) (e : Event) : Type 0 where
  pub irq : e.irq ≡ turn.irq
  pub aln : e.aln ≡ turn.aln
  pub status : e.status ≡ 0
  pub input : IsDrivenInput devices answers t (next_load_of m) e.input

-- the events of a driven run: those of these turns, in order, until the machine is dead or the
-- turns end; the first one has this number
abbrev pub AreDrivenEvents : PlanData → DeviceAnswers → ℕ → List Turn → Machine → List Event → Type 0
AreDrivenEvents plan answers t turns m [] = (turns ≡ []) ⊎ IsDead m.end
AreDrivenEvents plan answers t [] m (e ∷ es) = ⊥
AreDrivenEvents plan answers t (turn ∷ turns) m (e ∷ es) =
    (m.end ≡ Running) × IsEventOfTurn plan.devices answers t turn m e × AreDrivenEvents plan answers (t + 1) turns (step m e) es

-- The greatest number of areas in use, over the state before the first event and the states after
-- each event. A state without a chain counts as 0, so the peak is 0 if no state has one.
abbrev pub driven_peak : Machine → List Event → ℕ
driven_peak m [] = unwrap_or (used_area_count m) 0
driven_peak m (e ∷ es) = max (unwrap_or (used_area_count m) 0) (driven_peak (step m e) es)

-- the machine is driven by the turns and by answers; each event fits
pub record IsDrivenRun (plan : PlanData) (answers : DeviceAnswers) (turns : List Turn) (old new : Machine) (done : Peak) : Type 0 where
  pub events : List Event
  pub scripted : AreDrivenEvents plan answers 0 turns old events
  pub fits : AllFit plan old events
  pub after : new ≡ run old events
  pub count : done.events ≡ length events
  pub peak : done.peak ≡ driven_peak old events
