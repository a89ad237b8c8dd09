-- Handlers that are known while IE and CCPN stay.
use Rattle.std.proofs.Common.{◌≡◌, [], false, sym, ap, ◌∙◌}
use Rattle.std.specs.Prelude.{codes, filter, nat_lt, if◌then◌else◌}
use Rattle.tcd_plan.specs.PlanData.{PlanData}
use Rattle.value_domain.specs.declared.states.State.{State}
use Rattle.cfg_recover.specs.Entries.{possible_irqs_of}
use Rattle.tcd_report.specs.Graphs.KnownHandlers.{irq_handler_entries, AreHandlerLines, AreValidHandlers}
use Rattle.tcd_report.specs.declared.graphs.handlers.Handlers.{Handlers}
use Rattle.tcd_report.specs.Graphs.{unique_addresses, lines_to}

same_irqs : (plan : PlanData) (s t : State) → s.ie ≡ t.ie → s.ccpn ≡ t.ccpn → possible_irqs_of plan s ≡ possible_irqs_of plan t
same_irqs plan s t ie ccpn =
    ap (λ b. if b then filter (λ p. nat_lt s.ccpn p) plan.irqs else []) ie ∙ ap (λ n. if t.ie then filter (λ p. nat_lt n p) plan.irqs else []) ccpn

-- the handlers of one state are those of each state with the same IE and CCPN
pub known_by : (plan : PlanData) (known : Handlers) (s : State) → known.ie ≡ s.ie → known.ccpn ≡ s.ccpn → known.entries.items ≡ unique_addresses (irq_handler_entries plan (possible_irqs_of plan s))
    → AreHandlerLines known.front known.entries.items known.lines.items → AreValidHandlers plan known
known_by plan known s ie ccpn are lines =
    record {
      entries = λ t e p. are ∙ ap (λ irqs. unique_addresses (irq_handler_entries plan irqs)) (sym (same_irqs plan t s (e ∙ ie) (p ∙ ccpn)));
      lines = lines;
    }

-- no handlers are known while interrupts are off
pub none_known : (plan : PlanData) (known : Handlers) → known.ie ≡ false → known.front ≡ 0 → known.entries.items ≡ [] → known.lines.items ≡ [] → AreValidHandlers plan known
none_known plan known off front entries lines =
    record {
      entries = λ t e p. entries ∙ sym (ap (λ b. unique_addresses (irq_handler_entries plan (if b then filter (λ q. nat_lt t.ccpn q) plan.irqs else []))) (e ∙ off));
      lines = record { front = []; sized = sym front; are = lines ∙ sym (ap (lines_to [] (codes "irq ")) entries) };
    }
