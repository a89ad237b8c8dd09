use Rattle.packed_cert.proofs.StateShapes.{state_context}
use Rattle.packed_cert.proofs.states.StateAt.new.Goals as goal

pub invariant_of-result : goal.invariant_of-result
invariant_of-result c =
    let h = c.requires in
    record { state = h; room = (state_context c.args.version c.args.bytes.now c.args.place h.0.0 h.0.1 h.1).within }
