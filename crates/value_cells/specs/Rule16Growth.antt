-- K16 and larger certificates: the statements of the laws.
use Rattle.std.specs.Prelude.{◌≡◌, ℕ, List}
use Rattle.elf_image.specs.Images.{ImageData}
use Rattle.tcd_plan.specs.PlanData.{PlanData, IsPlan}
use Rattle.depth_cert.specs.declared.keys.Key.{Key}
use Rattle.depth_cert.specs.Certs.{CertData, IsCert}
use Rattle.cfg_recover.specs.RulesHoldOrFail.{Accepts}
use Rattle.cfg_recover.specs.Assignments.{IsAssignmentBelow, assignment_of_cert}
use Rattle.value_cells.specs.declared.cells.Cell.{Cell}
use Rattle.value_cells.specs.Keeping.{CertKeepsCellBounds, FailsRule16At}

-- One certificate is below another if the other has all of its places and covers what is known
-- there. If both are accepted under a plan, K16 fails for the upper one wherever it fails for the
-- lower.
abbrev pub CellFaultsAreMonotone : Type 0
CellFaultsAreMonotone =
    (image : ImageData) (plan : PlanData) (cells : List Cell) (lower upper : CertData) (k : Key) (p : ℕ) → IsPlan plan → IsCert lower → IsCert upper
    → lower.version ≡ upper.version → Accepts image plan lower → Accepts image plan upper → IsAssignmentBelow (assignment_of_cert lower) (assignment_of_cert upper)
    → FailsRule16At image plan cells lower k p → FailsRule16At image plan cells upper k p

-- If a certificate keeps the cells, each one below it does too, if both are accepted under a plan.
abbrev pub LesserCertKeepsCellBounds : Type 0
LesserCertKeepsCellBounds =
    (image : ImageData) (plan : PlanData) (cells : List Cell) (lower upper : CertData) → IsPlan plan → IsCert lower → IsCert upper
    → lower.version ≡ upper.version → Accepts image plan lower → Accepts image plan upper → IsAssignmentBelow (assignment_of_cert lower) (assignment_of_cert upper)
    → CertKeepsCellBounds image plan cells upper → CertKeepsCellBounds image plan cells lower
