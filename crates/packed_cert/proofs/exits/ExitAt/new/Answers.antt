use Rattle.packed_cert.proofs.StateShapes.{exit_context}
use Rattle.packed_cert.proofs.exits.ExitAt.new.Goals as goal

pub invariant_of-result : goal.invariant_of-result
invariant_of-result c =
    let h = c.requires.exit in
    record { short = c.requires.short; exit = h; room = (exit_context c.args.version c.args.bytes.now c.args.place h.0.0 h.0.1 h.1).inside }
