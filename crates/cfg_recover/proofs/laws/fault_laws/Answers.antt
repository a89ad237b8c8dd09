use Rattle.cfg_recover.proofs.FaultLaws.{first_faults_say, need_says}
use Rattle.cfg_recover.proofs.laws.fault_laws.Goals as goal

pub returns-clause-first : goal.returns-clause-first
returns-clause-first c = first_faults_say

pub returns-clause-need : goal.returns-clause-need
returns-clause-need c = need_says
