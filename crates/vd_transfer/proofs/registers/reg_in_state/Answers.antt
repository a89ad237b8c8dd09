use Rattle.std.proofs.Common.{◌<◌, arith}
use Rattle.std.proofs.lemmas.List.{get_or_default}
use Rattle.value_domain.specs.Values.{any_val}
use Rattle.vd_transfer.proofs.RegisterLaws.{at_is_value}
use Rattle.vd_transfer.proofs.registers.reg_in_state.Goals as goal

pub returns-in-Some-clause-value : goal.returns-in-Some-clause-value
returns-in-Some-clause-value c =
    let within : c.in-Some.i < 27 = rw c.in-Some.is at c.register_slot.ensures.within in
    rw (get_or_default c.args.s.now.regs c.in-Some.i c.index-s-i.result any_val (omega arith))
    (at_is_value c.args.b.now c.args.s.now.regs c.in-Some.i c.most_words-most_words.ensures.limits c.requires.values)
