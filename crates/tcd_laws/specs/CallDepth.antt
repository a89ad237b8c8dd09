-- How deep calls nest in a run since the last entry by an interrupt or a trap.
use Rattle.std.specs.Prelude.{◌≡◌, ◌≤◌, ◌==◌, ℕ, zero, suc, List, [], ◌∷◌, if◌then◌else◌, Any}
use Rattle.tc_machine.specs.declared.events.Event.{Event}
use Rattle.tc_machine.specs.declared.state.Machine.{Machine}
use Rattle.tc_machine.specs.Safe.{AllFit}
use Rattle.tc_machine.specs.Starting.{Starts}
use Rattle.elf_image.specs.Images.{ImageData}
use Rattle.tcd_plan.specs.PlanData.{PlanData}
use Rattle.depth_cert.specs.Certs.{CertData}
use Rattle.depth_cert.specs.Keys.{call_kind}
use Rattle.cfg_recover.specs.Frames.{RunFrame, frames}
use Rattle.depth_check.specs.AcceptedPromises.{HoldsForAccepted}
use Rattle.tcd_report.specs.Reports.{IsReport}

-- how many of the newest frames of a run, one after another, were entered by a call
abbrev pub nested_calls : List RunFrame → ℕ
nested_calls [] = zero
nested_calls (f ∷ fs) = if (f.key).kind == call_kind then suc (nested_calls fs) else zero

-- In each state of each run the calls that are nested since the last entry by an interrupt or a
-- trap are at most the `longest` that the report prints for the priority that runs.
abbrev pub ReportBoundsNestedCalls : ImageData → PlanData → CertData → Type 0
ReportBoundsNestedCalls image plan cert =
    (text : List ℕ) (report : IsReport image plan cert text) (m : Machine) (es : List Event)
    → Starts image plan m → AllFit plan m es
    → (f : RunFrame) (older : List RunFrame) → frames image plan m es ≡ f ∷ older
    → Any (λ row. (row.prio ≡ (f.key).prio) × (nested_calls (f ∷ older) ≤ row.longest)) report.rows

-- the law of call depth, for every accepted certificate
abbrev pub ReportsBoundNestedCalls : Type 0
ReportsBoundNestedCalls = HoldsForAccepted ReportBoundsNestedCalls
