use Rattle.vd_transfer.proofs.LoadedValues.{loaded_is}
use Rattle.vd_transfer.proofs.built_states.transfer.Goals as goal

pub write_instruction_change-requires-clause-loaded : goal.write_instruction_change-requires-clause-loaded
write_instruction_change-requires-clause-loaded c = loaded_is c.args.b.now _ _ (rw c.copy-c.ensures c.requires.loaded)
