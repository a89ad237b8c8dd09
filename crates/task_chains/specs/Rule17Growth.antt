-- K17 and larger certificates: the statements of the laws.
use Rattle.std.specs.Prelude.{◌≡◌, ℕ}
use Rattle.elf_image.specs.Images.{ImageData}
use Rattle.tcd_plan.specs.PlanData.{PlanData, IsPlan}
use Rattle.depth_cert.specs.declared.keys.Key.{Key}
use Rattle.depth_cert.specs.Certs.{CertData, IsCert}
use Rattle.cfg_recover.specs.RulesHoldOrFail.{Accepts}
use Rattle.cfg_recover.specs.Assignments.{IsAssignmentBelow, assignment_of_cert}
use Rattle.task_chains.specs.Tasks.{TasksData}
use Rattle.task_chains.specs.Rule17.{KeepsRule17, BreaksRule17}

-- One certificate is below another if the other has all of its places and covers what is known
-- there. If both are accepted for a view, K17 fails for the upper one wherever it fails for the
-- lower.
abbrev pub Rule17FaultsAreMonotone : Type 0
Rule17FaultsAreMonotone =
    (view : ImageData) (plan : PlanData) (tasks : TasksData) (lower upper : CertData) (k : Key) (p : ℕ) → IsPlan plan → IsCert lower → IsCert upper
    → lower.version ≡ upper.version → Accepts view plan lower → Accepts view plan upper → IsAssignmentBelow (assignment_of_cert lower) (assignment_of_cert upper)
    → BreaksRule17 view plan tasks lower k p → BreaksRule17 view plan tasks upper k p

-- a certificate for which K17 fails at some key and address doesn't keep the rule
abbrev pub BrokenRule17IsNotKept : Type 0
BrokenRule17IsNotKept =
    (view : ImageData) (plan : PlanData) (tasks : TasksData) (cert : CertData) (k : Key) (p : ℕ) → BreaksRule17 view plan tasks cert k p → KeepsRule17 view plan tasks cert → ⊥
