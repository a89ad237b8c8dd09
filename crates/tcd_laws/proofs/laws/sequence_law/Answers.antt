use Rattle.tcd_laws.proofs.SequenceEnds.{sure_sequences_end}
use Rattle.tcd_laws.proofs.laws.sequence_law.Goals as goal

pub returns : goal.returns
returns c = sure_sequences_end
