use Rattle.tcd_laws.proofs.Claims.Endings.{command_ends, bad_words_are_said}
use Rattle.tcd_laws.proofs.laws.ending_claim_laws.Goals as goal

pub returns-clause-commands : goal.returns-clause-commands
returns-clause-commands c = command_ends

pub returns-clause-bad_words : goal.returns-clause-bad_words
returns-clause-bad_words c = bad_words_are_said
