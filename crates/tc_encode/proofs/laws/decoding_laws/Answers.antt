use Rattle.tc_encode.proofs.DecodeProofs.{decode_laws}
use Rattle.tc_encode.proofs.laws.decoding_laws.Goals as goal

pub returns : goal.returns
returns c = decode_laws
