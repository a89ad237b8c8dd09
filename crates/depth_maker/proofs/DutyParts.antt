-- Empty parts of a point's duties.
use Rattle.std.proofs.Common.{◌≡◌, ℕ, Bool, false, List, [], ◌∷◌, length, ap, arith, refl, sym}
use Rattle.std.specs.Prelude.{filter, if◌then◌else◌, map, nat_lt}
use Rattle.tcd_plan.specs.PlanData.{PlanData}
use Rattle.value_domain.specs.declared.states.State.{State}
use Rattle.depth_cert.specs.declared.keys.Key.{Key}
use Rattle.cfg_recover.specs.Entries.{irq_key, irq_entry, possible_irqs_of}
use Rattle.cfg_recover.specs.Duties.{owed, enter, interrupt_duties_of}

-- without interrupts there is no duty
pub interrupts_none : (plan : PlanData) (key : Key) (s : State) (irqs : List ℕ) → irqs ≡ possible_irqs_of plan s → length irqs ≡ 0 → [] ≡ interrupt_duties_of plan key s
interrupts_none plan key s [] e len = ap (λ (l : List ℕ). map (λ p. owed 11 (enter (irq_key plan p) (irq_entry plan key s p))) l) e
interrupts_none plan key s (p ∷ ps) e len = absurd (omega arith)

-- nor with IE off
pub interrupts_off : (plan : PlanData) (key : Key) (s : State) → s.ie ≡ false → [] ≡ interrupt_duties_of plan key s
interrupts_off plan key s off = interrupts_none plan key s [] (sym (ap (λ (on : Bool). if on then filter (λ p. nat_lt s.ccpn p) plan.irqs else []) off)) refl
