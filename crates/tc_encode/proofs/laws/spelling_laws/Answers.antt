use Rattle.tc_encode.proofs.DecodeProofs.{spelling_laws}
use Rattle.tc_encode.proofs.laws.spelling_laws.Goals as goal

pub returns : goal.returns
returns c = spelling_laws
