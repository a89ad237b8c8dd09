use Rattle.std.proofs.Common.{◌∙◌, sym, arith}
use Rattle.std.proofs.lemmas.List.{get_or_default, get_or-replicate}
use Rattle.value_domain.specs.Values.{any_val}
use Rattle.vd_transfer.proofs.ChangeLaws.{forgotten-lower, forgotten-other}
use Rattle.vd_transfer.proofs.changed_states.base_value_in_slot.Goals as goal

pub returns-then-is_lower_slot : goal.returns-then-is_lower_slot
returns-then-is_lower_slot c =
    rw c.in-Forgotten.is (c.requires.any ∙ sym (forgotten-lower c.args.s.now.regs c.args.i (omega arith) (sym c.is_lower_slot.ensures ∙ c.if-is_lower_slot.true)))

pub returns-else-is_lower_slot : goal.returns-else-is_lower_slot
returns-else-is_lower_slot c =
    rw c.in-Forgotten.is
    (get_or_default c.args.s.now.regs c.args.i _ any_val (omega arith) ∙ sym (forgotten-other c.args.s.now.regs c.args.i (omega arith) (sym c.is_lower_slot.ensures ∙ c.if-is_lower_slot.false)))

pub returns-in-Any : goal.returns-in-Any
returns-in-Any c = rw c.in-Any.is (c.requires.any ∙ sym (get_or-replicate 27 c.args.i any_val any_val c.requires.place))
