-- A run by turns, one event after another.
use Rattle.std.proofs.Common.{◌≡◌, ℕ, ◌+◌, ◌⊎◌, max, unwrap_or, List, [], ◌∷◌, ◌++◌, length, drop, refl, sym, ap, subst, ◌∙◌, arith, length-append, append_assoc, append-nil}
use Rattle.tcd_plan.specs.PlanData.{PlanData}
use Rattle.tc_machine.specs.declared.events.Event.{Event}
use Rattle.tc_machine.specs.declared.events.End.TheVariants.{Running}
use Rattle.tc_machine.specs.declared.state.Machine.{Machine}
use Rattle.tc_machine.specs.Stepping.{step, run, used_area_count}
use Rattle.tc_machine.specs.Safe.{Fits, AllFit}
use Rattle.tc_script.specs.declared.driving.Peak.{Peak}
use Rattle.tc_script.specs.declared.scripts.Turn.{Turn}
use Rattle.tc_script.specs.DrivenRuns.{DeviceAnswers, IsEventOfTurn, AreDrivenEvents, driven_peak, IsDrivenRun}
use Rattle.tc_machine.specs.Machine.{IsDead}

run-push : (m : Machine) (es : List Event) (e : Event) → run m (es ++ e ∷ []) ≡ step (run m es) e
run-push m [] e = refl
run-push m (x ∷ es) e = run-push (step m x) es e

AllFit-push : (plan : PlanData) (m : Machine) (es : List Event) (e : Event) → AllFit plan m es → Fits plan (run m es) e → AllFit plan m (es ++ e ∷ [])
AllFit-push plan m [] e all fits = (fits, tt)
AllFit-push plan m (x ∷ es) e all fits = (all.0, AllFit-push plan (step m x) es e all.1 fits)

max_assoc : (a b c : ℕ) → max a (max b c) ≡ max (max a b) c
max_assoc a b c = omega arith

peak-push : (m : Machine) (es : List Event) (e : Event) → driven_peak m (es ++ e ∷ []) ≡ max (driven_peak m es) (unwrap_or (used_area_count (step (run m es) e)) 0)
peak-push m [] e = refl
peak-push m (x ∷ es) e =
    ap (λ n. max (unwrap_or (used_area_count m) 0) n) (peak-push (step m x) es e)
    ∙ max_assoc (unwrap_or (used_area_count m) 0) (driven_peak (step m x) es) (unwrap_or (used_area_count (step (run (step m x) es) e)) 0)

-- the events of the first t turns are done
pub record DrivenSoFar (plan : PlanData) (answers : DeviceAnswers) (turns : List Turn) (old : Machine) (t : ℕ) (now : Machine) (done : Peak) : Type 0 where
  pub events : List Event
  pub number : length events ≡ t
  pub count : done.events ≡ t
  pub after : now ≡ run old events
  pub goes_on : (es : List Event) → AreDrivenEvents plan answers t (drop t turns) now es → AreDrivenEvents plan answers 0 turns old (events ++ es)
  pub fits : AllFit plan old events
  pub peak : done.peak ≡ driven_peak old events

module _ {plan : PlanData} {answers : DeviceAnswers} {turns : List Turn} {old : Machine} where
  pub one_more : (t : ℕ) (now : Machine) (done : Peak) (turn : Turn) (e : Event) (new : Machine) (then : Peak) → DrivenSoFar plan answers turns old t now done → now.end ≡ Running → drop t turns ≡ turn ∷ drop (t + 1) turns → IsEventOfTurn plan.devices answers t turn now e → Fits plan now e → new ≡ step now e → then.events ≡ t + 1 → then.peak ≡ max done.peak (unwrap_or (used_area_count new) 0) → DrivenSoFar plan answers turns old (t + 1) new then
  one_more t now done turn e new then d running rest event fits is count peak = record {
    events = d.events ++ e ∷ [];
    number = omega (arith, length-append d.events (e ∷ []), d.number);
    count = count;
    after = is ∙ ap (λ m. step m e) d.after ∙ sym (run-push old d.events e);
    goes_on = λ es h.
        let front : AreDrivenEvents plan answers t (turn ∷ drop (t + 1) turns) now (e ∷ es) = (running, event, subst (λ m. AreDrivenEvents plan answers (t + 1) (drop (t + 1) turns) m es) is h) in
        let all : AreDrivenEvents plan answers 0 turns old (d.events ++ (e ∷ es)) = d.goes_on (e ∷ es) (subst (λ ts. AreDrivenEvents plan answers t ts now (e ∷ es)) (sym rest) front) in
        subst (λ xs. AreDrivenEvents plan answers 0 turns old xs) (sym (append_assoc d.events (e ∷ []) es)) all;
    fits = AllFit-push plan old d.events e d.fits (subst (λ m. Fits plan m e) d.after fits);
    peak = peak ∙ ap (λ n. max n (unwrap_or (used_area_count new) 0)) d.peak ∙ ap (λ m. max (driven_peak old d.events) (unwrap_or (used_area_count m) 0)) (is ∙ ap (λ m. step m e) d.after) ∙ sym (peak-push old d.events e);
  }

  pub ended : (t : ℕ) (now : Machine) (done : Peak) → DrivenSoFar plan answers turns old t now done → (drop t turns ≡ []) ⊎ IsDead now.end → IsDrivenRun plan answers turns old now done
  ended t now done d end = record {
    events = d.events;
    scripted = subst (λ es. AreDrivenEvents plan answers 0 turns old es) (append-nil d.events) (d.goes_on [] end);
    fits = d.fits;
    after = d.after;
    count = d.count ∙ sym d.number;
    peak = d.peak;
  }
