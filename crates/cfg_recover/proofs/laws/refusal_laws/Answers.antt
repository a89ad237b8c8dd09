use Rattle.cfg_recover.proofs.RefusalLaws.{refusals_say}
use Rattle.cfg_recover.proofs.laws.refusal_laws.Goals as goal

pub returns : goal.returns
returns c = refusals_say
