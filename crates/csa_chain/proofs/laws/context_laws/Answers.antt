use Rattle.csa_chain.proofs.ContextLaws.{fields_come_back, upper_comes_back, lower_comes_back}
use Rattle.csa_chain.proofs.laws.context_laws.Goals as goal

pub returns : goal.returns
returns c = record { fields = fields_come_back; upper = upper_comes_back; lower = lower_comes_back }
