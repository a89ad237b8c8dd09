use Rattle.std.proofs.Common.{◌∙◌, sym}
use Rattle.packed_cert.proofs.ValueShapes.{stands_at}
use Rattle.packed_cert.proofs.restored_values.next_exit_value_offset.Goals as goal

pub bounds-low-low : goal.bounds-low-low
bounds-low-low c =
    (stands_at c.args.low.version c.args.low.bytes.now c.args.low.place c.cert_bytes_below_256.ensures (c.requires (sym c.is_lower_slot.ensures ∙ c.if-is_lower_slot.true))).inside
