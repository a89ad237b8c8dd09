use Rattle.std.proofs.Common.{◌≡◌, ◌∙◌, ap, sym, subst}
use Rattle.tc_isa.specs.declared.shapes.Op.TheVariants.{Sub}
use Rattle.value_domain.specs.declared.values.Val.{Val}
use Rattle.value_domain.specs.declared.states.State.{State}
use Rattle.value_domain.specs.State.{AreInLattice}
use Rattle.vd_transfer.specs.Changes.{state_after}
use Rattle.vd_transfer.specs.Operations.{operation_value}
use Rattle.vd_transfer.specs.Registers.{reg_of, state_after_reg_write}
use Rattle.value_domain.specs.Values.{word_val}
use Rattle.vd_transfer.proofs.ChangeLaws.{third-free}
use Rattle.vd_transfer.proofs.branch_sides.decrement_register.Goals as goal

pub set_third_write_slot-requires-clause-values : goal.set_third_write_slot-requires-clause-values
set_third_write_slot-requires-clause-values c =
    subst (λ (t : State). AreInLattice c.args.b.now t.regs) (sym (third-free c.args.s.now c.args.c.now c.write_operation_value.new.out c.requires.free)) c.requires.values

pub returns-clause-lowered : goal.returns-clause-lowered
returns-clause-lowered c =
    let lowered : c.write_operation_value.new.out ≡ operation_value c.args.b.now Sub (reg_of c.args.plan.now (state_after c.args.s.now c.args.c.now) c.args.x) (word_val 1) = rw (c.changed_reg-v.ensures.reg, c.constant_value.ensures.word) at c.write_operation_value.ensures.cover in
    c.set_third_write_slot.ensures.written
    ∙ ap (λ (t : State). state_after_reg_write t c.args.x c.write_operation_value.new.out) (third-free c.args.s.now c.args.c.now c.write_operation_value.new.out c.requires.free)
    ∙ ap (λ (v : Val). state_after_reg_write (state_after c.args.s.now c.args.c.now) c.args.x v) lowered
