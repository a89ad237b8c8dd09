use Rattle.std.proofs.Common.{◌≡◌, ◌<◌, ap, ◌∙◌, arith}
use Rattle.tc_isa.specs.Forms.{field_bounds}
use Rattle.tc_stmt.specs.RowFields.{field_of}
use Rattle.tc_disasm.proofs.Bounds.{field_of-below}
use Rattle.tc_disasm.proofs.operands.append_constant_operand.Goals as goal

pub append_number-requires : goal.append_number-requires
append_number-requires c =
    let below : field_of c.args.field c.args.f.now < field_of c.args.field (field_bounds c.args.form) = field_of-below c.args.field c.args.f.now (field_bounds c.args.form) c.requires in
    let bound : c.field_of.result ≡ field_of c.args.field (field_bounds c.args.form) = c.field_of.ensures ∙ ap (field_of c.args.field) c.field_bounds.ensures in
    let value : c.field_of-2.result ≡ field_of c.args.field c.args.f.now = c.field_of-2.ensures in
    omega (arith, below, bound, value)
