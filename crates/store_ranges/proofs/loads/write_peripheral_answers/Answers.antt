use Rattle.store_ranges.proofs.LoadLaws.{answers_some}
use Rattle.store_ranges.proofs.loads.write_peripheral_answers.Goals as goal

pub returns-in-Some-clause-some : goal.returns-in-Some-clause-some
returns-in-Some-clause-some c = answers_some c.args.load.size c.args.load.signed c.args.device c.requires.bounds

pub returns-in-None-clause-some : goal.returns-in-None-clause-some
returns-in-None-clause-some c = answers_some c.args.load.size c.args.load.signed c.args.device c.requires.bounds
