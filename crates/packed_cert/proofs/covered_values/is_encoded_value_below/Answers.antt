use Rattle.std.proofs.Common.{subst}
use Rattle.std.specs.Prelude.{IsTrue, ◌↔◌}
use Rattle.value_domain.specs.declared.values.Val.{Val}
use Rattle.value_domain.specs.Values.{IsBelow}
use Rattle.packed_cert.specs.ValuesInBytes.{value_in_bytes}
use Rattle.packed_cert.proofs.ValueShapes.{stands_at, well_of}
use Rattle.packed_cert.proofs.covered_values.is_encoded_value_below.Goals as goal

pub is_below_value_at-requires-clause-well : goal.is_below_value_at-requires-clause-well
is_below_value_at-requires-clause-well c =
    let low = stands_at c.args.low.version c.args.low.bytes.now c.args.low.place c.cert_bytes_below_256.ensures c.requires.low in
    rw c.value_at_offset-v.ensures (well_of c.args.low.version (value_in_bytes c.args.low.version c.args.low.bytes.now c.args.low.place) low.well)

pub returns : goal.returns
returns c =
    subst (λ (v : Val). IsTrue c.is_below_value_at.result ↔ IsBelow v (value_in_bytes c.args.high.version c.args.high.bytes.now c.args.high.place)) c.value_at_offset-v.ensures c.is_below_value_at.ensures
