use Rattle.csa_chain.proofs.SeveralLaws.{owner_saves, owner_restores}
use Rattle.csa_chain.proofs.laws.several_chains_laws.Goals as goal

pub returns : goal.returns
returns c = record { saves = owner_saves; restores = owner_restores }
