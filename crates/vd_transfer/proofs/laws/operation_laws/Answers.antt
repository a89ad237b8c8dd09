use Rattle.vd_transfer.proofs.OpLaws.{sound, monotone}
use Rattle.vd_transfer.proofs.laws.operation_laws.Goals as goal

pub returns-clause-sound : goal.returns-clause-sound
returns-clause-sound c = sound

pub returns-clause-monotone : goal.returns-clause-monotone
returns-clause-monotone c = monotone
