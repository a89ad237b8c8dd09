use Rattle.tcd_reading.proofs.EndingWords.{ends_say, anyhow_say}
use Rattle.tcd_reading.proofs.laws.ending_laws.Goals as goal

pub returns-clause-told : goal.returns-clause-told
returns-clause-told g c = ends_say _

pub returns-clause-anyhow : goal.returns-clause-anyhow
returns-clause-anyhow g c = anyhow_say _
