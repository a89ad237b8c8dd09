use Rattle.packed_cert.proofs.certs.cert_bytes_below_256.Goals as goal

pub returns : goal.returns
returns c = λ k. (c.type_inv.bytes k).fits
