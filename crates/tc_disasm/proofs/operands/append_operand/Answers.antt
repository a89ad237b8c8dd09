use Rattle.std.proofs.Common.{◌≡◌, ap, arith}
use Rattle.tc_isa.specs.Forms.{field_bounds}
use Rattle.tc_disasm.proofs.Bounds.{bounds-k}
use Rattle.tc_disasm.proofs.operands.append_operand.Goals as goal

pub append_target_operand-requires-clause-small : goal.append_target_operand-requires-clause-small
append_target_operand-requires-clause-small c =
    let bound : c.field_bounds.result.k ≡ (field_bounds c.args.form).k = ap (λ b. b.k) c.field_bounds.ensures in
    omega (arith, bound, bounds-k c.args.form)
