-- The laws of operations and refinement.
use Rattle.value_domain.specs.declared.values.Val.{Val}
use Rattle.value_domain.specs.Limits.{Limits, AreLimits}
use Rattle.value_domain.specs.Values.{IsInLattice, IsBelow, IsMember}
use Rattle.tc_isa.specs.declared.shapes.Op.{Op}
use Rattle.vd_transfer.specs.Operations.{operation_value}
use Rattle.std.specs.Prelude.{ℕ}
use Rattle.tc_isa.specs.Arithmetic.{alu_of}

-- operations are monotone: smaller operands give a smaller abstract value
abbrev pub OperationsAreMonotone : Type 0
OperationsAreMonotone =
    (b : Limits) (op : Op) (v w v2 w2 : Val) → AreLimits b → IsInLattice b v → IsInLattice b w → IsInLattice b v2 → IsInLattice b w2
    → IsBelow v v2 → IsBelow w w2 → IsBelow (operation_value b op v w) (operation_value b op v2 w2)

-- each result of an operation on members is a member of its value
abbrev pub OperationsAreSound : Type 0
OperationsAreSound =
    (b : Limits) (op : Op) (v w : Val) → AreLimits b → IsInLattice b v → IsInLattice b w
    → (x y : ℕ) → IsMember x v → IsMember y w → IsMember (alu_of op x y) (operation_value b op v w)
