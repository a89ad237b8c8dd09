use Rattle.std.proofs.Common.{◌∙◌}
use Rattle.packed_cert.proofs.SameStates.{stands_where}
use Rattle.packed_cert.proofs.point_reader.read_changed_state.Goals as goal

pub returns-clause-held : goal.returns-clause-held
returns-clause-held c =
    let after = c.read_state_fields.ensures.bytes ∙ c.requires.same in
    let from = stands_where c.args.version c.args.bytes.now c.args.c.now c.read_state_fields.new.c c.read_state_fields.new.out (record { start = c.place-start.result; values = c.in_ok-fields.fields.0; end = c.place-end.result }) (λ k. (c.type_inv.bytes k).fits) c.requires.same after c.place-start.ensures.place c.place-end.ensures.place (rw c.requires.same at c.place-start.ensures.within) c.in_ok-fields.ensures.ok in
    record { order = from.1; within = from.2; read = from.0; values = rw c.place-end.ensures.place c.in_ok-fields.ensures.held }
