use Rattle.std.proofs.Common.{ap, ◌∙◌}
use Rattle.value_domain.specs.declared.values.Val.{Val}
use Rattle.vd_transfer.specs.EffectsOnStates.{transfer_of}
use Rattle.vd_transfer.proofs.LoadedValues.{loaded_is}
use Rattle.cfg_recover.proofs.StepChanges.{nothing_keeps, writes_none}
use Rattle.cfg_recover.proofs.flow_successors.write_successor_change.Goals as goal

pub write_instruction_change-requires-clause-loaded : goal.write_instruction_change-requires-clause-loaded
write_instruction_change-requires-clause-loaded c = loaded_is c.args.b.now c.args.shape c.write_loaded_value.new.out c.write_loaded_value.ensures.value

pub returns-in-Load-clause-change : goal.returns-in-Load-clause-change
returns-in-Load-clause-change c =
    c.write_instruction_change.ensures.change
    ∙ ap (λ (v : Val). transfer_of c.args.b.now c.args.plan.now c.args.shape c.args.s.now v)
    (c.write_loaded_value.ensures.loaded c.args.s.now c.write_address_by_shape.ensures.address)

pub returns-in_default-clause-change : goal.returns-in_default-clause-change
returns-in_default-clause-change c =
    c.write_instruction_change-in_default.ensures.change ∙ writes_none c.args.b.now c.args.plan.now c.args.s.now c.args.shape _ _ c.in_default.not-Load

pub returns-in-Nothing-clause-change : goal.returns-in-Nothing-clause-change
returns-in-Nothing-clause-change c = c.write_identity_change.ensures ∙ nothing_keeps c.args.b.now c.args.image.now c.args.plan.now c.args.s.now c.args.shape c.in-Nothing.is
