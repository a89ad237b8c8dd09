use Rattle.std.proofs.Common.{◌∙◌, sym, ap}
use Rattle.depth_cert.specs.declared.points.Exit.{Exit}
use Rattle.packed_cert.specs.ValuesInBytes.{read_from_bytes_or}
use Rattle.depth_cert.specs.Exits.{no_exit}
use Rattle.packed_cert.proofs.StateShapes.{exit_values}
use Rattle.packed_cert.proofs.exits.ExitAt.lower.Goals as goal

pub returns-clause-have : goal.returns-clause-have
returns-clause-have c = let h = c.self.invariant.exit in (exit_values c.self.inside.version c.self.inside.bytes.now c.self.inside.place h.0.0 h.0.1 c.cert_bytes_below_256.ensures h.1).have

pub returns-clause-values : goal.returns-clause-values
returns-clause-values c =
    let h = c.self.invariant.exit in
    sym (ap (λ (e : Exit). e.lower) c.self.view_is)
    ∙ ap (λ (e : Exit). e.lower) (ap (read_from_bytes_or no_exit) h.1)
    ∙ (exit_values c.self.inside.version c.self.inside.bytes.now c.self.inside.place h.0.0 h.0.1 c.cert_bytes_below_256.ensures h.1).lower
