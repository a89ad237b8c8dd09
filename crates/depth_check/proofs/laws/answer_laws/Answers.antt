use Rattle.depth_check.proofs.AnswerLaws.{answers_say}
use Rattle.depth_check.proofs.laws.answer_laws.Goals as goal

pub returns : goal.returns
returns c = answers_say
