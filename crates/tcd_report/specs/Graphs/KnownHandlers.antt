-- The handlers of the interrupts that may come while IE and CCPN stay the same, and their lines.
use Rattle.std.specs.Prelude.{◌≡◌, ℕ, ◌+◌, List, ◌++◌, length, take, drop, map}
use Rattle.tcd_plan.specs.PlanData.{PlanData}
use Rattle.value_domain.specs.declared.states.State.{State}
use Rattle.cfg_recover.specs.Entries.{possible_irqs_of, irq_key}
use Rattle.tcd_report.specs.declared.graphs.handlers.Handlers.{Handlers}
use Rattle.tcd_report.specs.Graphs.{unique_addresses, irq_lines}

-- these are the graph's `irq` lines of handlers with these entries, with one prefix of this length
pub record AreHandlerLines (size : ℕ) (entries lines : List ℕ) : Type 0 where
  pub front : List ℕ
  pub sized : length front ≡ size
  pub are : lines ≡ irq_lines front entries

-- the addresses on the graph's `irq` lines for these interrupts: the entries of their handlers
abbrev pub irq_handler_entries : PlanData → List ℕ → List ℕ
irq_handler_entries plan irqs = map (λ p. (irq_key plan p).entry) irqs

-- The kept handlers are valid. In each state with their IE and CCPN, their entries are those of the
-- interrupts that may come, each once, and the lines are theirs.
pub record AreValidHandlers (plan : PlanData) (known : Handlers) : Type 0 where
  pub entries : (s : State) → s.ie ≡ known.ie → s.ccpn ≡ known.ccpn → known.entries.items ≡ unique_addresses (irq_handler_entries plan (possible_irqs_of plan s))
  pub lines : AreHandlerLines known.front known.entries.items known.lines.items

-- the graph's `irq` lines of handlers, with a prefix written at an index
abbrev pub with_line_prefix : List ℕ → ℕ → List ℕ → List ℕ
with_line_prefix lines at front = take at lines ++ (front ++ drop (at + length front) lines)
