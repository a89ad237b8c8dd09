use Rattle.std.proofs.Common.{◌∙◌, sym, ap}
use Rattle.depth_cert.specs.declared.points.Exit.{Exit}
use Rattle.packed_cert.specs.ValuesInBytes.{read_from_bytes_or}
use Rattle.depth_cert.specs.Exits.{no_exit}
use Rattle.packed_cert.proofs.StateShapes.{exit_context}
use Rattle.packed_cert.proofs.exits.ExitAt.ccpn.Goals as goal

pub returns : goal.returns
returns c =
    let h = c.self.invariant.exit in
    sym (exit_context c.self.inside.version c.self.inside.bytes.now c.self.inside.place h.0.0 h.0.1 h.1).ccpn
    ∙ sym (ap (λ (e : Exit). e.ccpn) (ap (read_from_bytes_or no_exit) h.1))
    ∙ ap (λ (e : Exit). e.ccpn) c.self.view_is
