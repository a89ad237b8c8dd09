use Rattle.std.proofs.Common.{subst}
use Rattle.std.specs.Prelude.{IsTrue, ◌↔◌}
use Rattle.value_domain.specs.declared.values.Val.{Val}
use Rattle.value_domain.specs.Values.{IsBelow}
use Rattle.packed_cert.specs.ValuesInBytes.{value_in_bytes}
use Rattle.packed_cert.proofs.ValueShapes.{stands_at, well_of}
use Rattle.packed_cert.proofs.covered_values.is_below_decoded_value.Goals as goal

pub leq-requires-clause-right : goal.leq-requires-clause-right
leq-requires-clause-right c =
    let s = stands_at c.args.version c.args.bytes.now c.args.place (λ k. (c.type_inv.bytes k).fits) c.requires.stands in
    rw c.value_at_offset.ensures (well_of c.args.version (value_in_bytes c.args.version c.args.bytes.now c.args.place) s.well)

pub returns : goal.returns
returns c = subst (λ (w : Val). IsTrue c.leq.result ↔ IsBelow c.args.v.now w) c.value_at_offset.ensures c.leq.ensures
