use Rattle.csa_chain.proofs.WordLaws.{words_come_back, bytes_stay, words_stay}
use Rattle.csa_chain.proofs.laws.memory_laws.Goals as goal

pub returns : goal.returns
returns c = record { written = words_come_back; bytes = bytes_stay; words = words_stay }
