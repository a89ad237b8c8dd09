-- The test of K17, part by part.
use Rattle.std.proofs.Common.{ℕ, ◌-◌, ◌/◌, ◌%◌, ◌<◌, ◌≤◌, IsTrue, arith, ◌==◌}
use Rattle.std.proofs.lemmas.Bool.{eqb-true, eq-eqb}
use Rattle.task_chains.specs.Tasks.{TasksData}
use Rattle.task_chains.specs.SwitchRoutine.{IsRoutineInstruction}

-- ---- where a point lies
module _ (tasks : TasksData) (p : ℕ) where
  pub step_within : tasks.switch ≤ p → p - tasks.switch < 72 → (IsTrue ((p - tasks.switch) % 4 == 0) → IsRoutineInstruction tasks p) × (IsRoutineInstruction tasks p → IsTrue ((p - tasks.switch) % 4 == 0))
  step_within low within = (
    λ t. let even = eqb-true ((p - tasks.switch) % 4) 0 t in ((p - tasks.switch) / 4, omega arith, omega arith),
    λ step. let is = step.2 in eq-eqb ((p - tasks.switch) % 4) 0 (omega arith),
  )
