use Rattle.tcd_reading.proofs.EndingWords.{says_say, asks_say}
use Rattle.tcd_reading.proofs.laws.reading_laws.Goals as goal

pub returns-clause-says : goal.returns-clause-says
returns-clause-says g c = says_say g.C.AnyCommand.reading

pub returns-clause-asks : goal.returns-clause-asks
returns-clause-asks g c = asks_say g.C.AnyCommand.reading
