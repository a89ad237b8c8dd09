use Rattle.tcd_laws.proofs.HandOver.{asm_hands_over, link_hands_over}
use Rattle.tcd_laws.proofs.laws.read_back_laws.Goals as goal

pub returns-clause-assembled : goal.returns-clause-assembled
returns-clause-assembled c = asm_hands_over

pub returns-clause-linked : goal.returns-clause-linked
returns-clause-linked c = link_hands_over
