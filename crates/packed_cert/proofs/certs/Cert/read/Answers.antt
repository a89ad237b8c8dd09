use Rattle.depth_cert.proofs.WholeLaws.{read_is_cert}
use Rattle.packed_cert.proofs.certs.Cert.read.Goals as goal

pub invariant_of-result : goal.invariant_of-result
invariant_of-result c =
    let spells = rw c.deref.ensures.value at c.in_ok-version.ensures.ok in
    let small = rw c.deref-2.ensures.value at c.cert_bytes_below_256.ensures in
    let facts = read_is_cert c.args.bytes.items _ small spells in
    record {
      short = c.requires;
      spells = spells;
      one = facts.0;
      limits = facts.1;
      nodes = rw c.deref.ensures.value at c.in_ok-version.ensures.places;
    }

pub returns-clause-one : goal.returns-clause-one
returns-clause-one c =
    let spells = rw c.deref.ensures.value at c.in_ok-version.ensures.ok in
    let small = rw c.deref-2.ensures.value at c.cert_bytes_below_256.ensures in
    (read_is_cert c.args.bytes.items _ small spells).0
