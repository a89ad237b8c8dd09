use Rattle.depth_maker.proofs.DutyGrowth.{after_grows}
use Rattle.depth_maker.proofs.WellFormedDuties.{after_well_formed}
use Rattle.depth_maker.proofs.laws.return_state_laws.Goals as goal

pub returns-clause-grows : goal.returns-clause-grows
returns-clause-grows c = after_grows

pub returns-clause-well_formed : goal.returns-clause-well_formed
returns-clause-well_formed c = after_well_formed
