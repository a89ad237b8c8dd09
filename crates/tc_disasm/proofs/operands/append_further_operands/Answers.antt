use Rattle.std.proofs.Common.{◌++◌}
use Rattle.std.specs.Prelude.{codes}
use Rattle.tc_disasm.specs.Texts.{operand_text}
use Rattle.tc_disasm.proofs.Appending.{flat_map_on}
use Rattle.tc_disasm.proofs.operands.append_further_operands.Goals as goal

pub loop-want-preserved : goal.loop-want-preserved
loop-want-preserved c = flat_map_on (λ v. codes ", " ++ operand_text c.args.form c.args.f.now v) c.args.wants.now c.loop-want.want-index _ _ _ _ c.loop-want-test.true c.loop-want.invariant c.in_ok-append_further_operand.ensures
