use Rattle.std.proofs.Common.{◌∙◌, ◌+◌, sym, arith}
use Rattle.std.proofs.lemmas.List.{get_or_default}
use Rattle.value_domain.specs.Values.{any_val}
use Rattle.depth_cert.proofs.ExitValues.{lower_low, lower_high}
use Rattle.depth_cert.proofs.lower_registers.lower_register_value.Goals as goal

pub returns-then-i-lt8 : goal.returns-then-i-lt8
returns-then-i-lt8 c = get_or_default c.args.regs.now c.args.i c.index-regs-i.result any_val (omega arith) ∙ sym (lower_low c.args.regs.now c.args.i (omega arith) (omega arith))

pub returns-else-i-lt8 : goal.returns-else-i-lt8
returns-else-i-lt8 c = get_or_default c.args.regs.now (c.args.i + 8) c.index-regs-i-else-i-lt8.result any_val (omega arith) ∙ sym (lower_high c.args.regs.now c.args.i (omega arith) (omega arith) (omega arith))
