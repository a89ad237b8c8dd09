use Rattle.std.proofs.Common.{◌∙◌, sym, ap}
use Rattle.value_domain.specs.declared.states.State.{State}
use Rattle.packed_cert.specs.ValuesInBytes.{read_from_bytes_or}
use Rattle.value_domain.specs.State.{no_state}
use Rattle.packed_cert.proofs.StateShapes.{state_context}
use Rattle.packed_cert.proofs.states.StateAt.ccpn.Goals as goal

pub returns : goal.returns
returns c =
    let h = c.self.invariant.state in
    sym (state_context c.self.inside.version c.self.inside.bytes.now c.self.inside.place h.0.0 h.0.1 h.1).ccpn
    ∙ sym (ap (λ (s : State). s.ccpn) (ap (read_from_bytes_or no_state) h.1))
    ∙ ap (λ (s : State). s.ccpn) c.self.view_is
