use Rattle.std.proofs.Common.{◌∙◌}
use Rattle.packed_cert.proofs.PointPlaces.{read_stand}
use Rattle.packed_cert.proofs.point_reader.read_state_fields.Goals as goal

pub returns-clause-held : goal.returns-clause-held
returns-clause-held c =
    let bytes = c.read_locals.ensures.bytes ∙ c.read_flag-2.ensures.bytes ∙ c.read_u8.ensures.bytes ∙ c.read_flag.ensures.bytes ∙ c.requires.same in
    read_stand c.args.version _ c.args.bytes.now c.read_locals.new.c c.read_or_skip_values.new.out _ c.place-at.result (λ k. (c.type_inv.bytes k).fits) bytes c.place-at.ensures.place (rw bytes at c.place-at.ensures.within)
    c.in_ok-row.ensures.ok
