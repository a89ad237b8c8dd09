use Rattle.std.proofs.Common.{sym, arith}
use Rattle.vd_transfer.proofs.ChangeLaws.{apart, value-third, value-second, value-first}
use Rattle.vd_transfer.proofs.changed_states.changed_value.Goals as goal

pub returns-then-is_write_to_slot : goal.returns-then-is_write_to_slot
returns-then-is_write_to_slot c = sym (value-third c.args.s.now c.args.c.now c.args.i (omega arith) c.requires.place (c.is_write_to_slot.ensures.0 c.if-is_write_to_slot.true))

pub returns-then-is_write_to_slot-2 : goal.returns-then-is_write_to_slot-2
returns-then-is_write_to_slot-2 c =
    sym (value-second c.args.s.now c.args.c.now c.args.i (omega arith) c.requires.place (apart _ _ c.if-is_write_to_slot.false c.is_write_to_slot.ensures) (c.is_write_to_slot-2.ensures.0 c.if-is_write_to_slot-2.true))

pub returns-then-is_write_to_slot-3 : goal.returns-then-is_write_to_slot-3
returns-then-is_write_to_slot-3 c =
    sym
    (value-first c.args.s.now c.args.c.now c.args.i (omega arith) c.requires.place (apart _ _ c.if-is_write_to_slot.false c.is_write_to_slot.ensures) (apart _ _ c.if-is_write_to_slot-2.false c.is_write_to_slot-2.ensures)
    (c.is_write_to_slot-3.ensures.0 c.if-is_write_to_slot-3.true))
