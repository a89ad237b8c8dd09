-- Scripts that fit a plan.
use Rattle.std.specs.Prelude.{◌≡◌, ◌≤◌, ◌⊎◌, List, [], ◌∷◌, length, All, Contains}
use Rattle.tcd_plan.specs.declared.plans.Device.{Device}
use Rattle.tcd_plan.specs.PlanData.{PlanData}
use Rattle.tc_script.specs.declared.scripts.Turn.{Turn}
use Rattle.tc_script.specs.declared.scripts.AnswerRange.{AnswerRange}
use Rattle.tc_script.specs.ScriptData.{ScriptData}

-- the interrupt of each turn is none or one of the plan's
abbrev pub AreTurnInterruptsOfPlan : PlanData → List Turn → Type 0
AreTurnInterruptsOfPlan plan turns = All (λ turn. (turn.irq ≡ 0) ⊎ Contains plan.irqs turn.irq) turns

-- for each peripheral, bounds inside its own
abbrev pub AreAnswerBoundsInside : List Device → List AnswerRange → Type 0
AreAnswerBoundsInside [] [] = Unit {0}
AreAnswerBoundsInside (d ∷ ds) (b ∷ bs) = ((d.lo ≤ b.lo) × (b.lo ≤ b.hi) × (b.hi ≤ d.hi)) × AreAnswerBoundsInside ds bs
AreAnswerBoundsInside _ _ = ⊥

-- a script of the plan's interrupts, with bounds for each of the plan's peripherals inside its own
pub record FitsPlan (plan : PlanData) (script : ScriptData) : Type 0 where
  pub sources : AreTurnInterruptsOfPlan plan script.turns
  pub devices : length script.bounds ≡ length plan.devices
  pub bounds : AreAnswerBoundsInside plan.devices script.bounds
