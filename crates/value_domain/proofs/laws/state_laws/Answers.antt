use Rattle.value_domain.proofs.JoinLaws.{joined_least}
use Rattle.value_domain.proofs.laws.state_laws.Goals as goal

pub returns : goal.returns
returns c = joined_least
