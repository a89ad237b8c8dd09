use Rattle.std.proofs.Common.{◌∙◌, ap}
use Rattle.value_domain.specs.declared.states.State.{State}
use Rattle.packed_cert.specs.ValuesInBytes.{read_from_bytes_or}
use Rattle.value_domain.specs.State.{no_state}
use Rattle.packed_cert.proofs.StateShapes.{state_values}
use Rattle.packed_cert.proofs.states.offset_of_register_values.Goals as goal

pub returns-clause-have : goal.returns-clause-have
returns-clause-have c = let h = c.requires.state in (state_values c.args.version c.args.bytes.now c.args.place h.0.0 h.0.1 (λ k. (c.type_inv.bytes k).fits) h.1).have

pub returns-clause-values : goal.returns-clause-values
returns-clause-values c =
    let h = c.requires.state in
    ap (λ (s : State). s.regs) (ap (read_from_bytes_or no_state) h.1) ∙ (state_values c.args.version c.args.bytes.now c.args.place h.0.0 h.0.1 (λ k. (c.type_inv.bytes k).fits) h.1).regs
