use Rattle.depth_maker.proofs.OwnGrowth.{faults_fall}
use Rattle.depth_maker.proofs.DutyGrowth.{duties_grow}
use Rattle.depth_maker.proofs.WellFormedDuties.{duties_well_formed}
use Rattle.depth_maker.proofs.laws.duty_monotonicity_laws.Goals as goal

pub returns-clause-faults : goal.returns-clause-faults
returns-clause-faults c = faults_fall

pub returns-clause-duties : goal.returns-clause-duties
returns-clause-duties c = duties_grow

pub returns-clause-well_formed : goal.returns-clause-well_formed
returns-clause-well_formed c = duties_well_formed
