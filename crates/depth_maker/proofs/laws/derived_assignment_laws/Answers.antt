use Rattle.depth_maker.proofs.Below.{derived_below, fault_refuted}
use Rattle.depth_maker.proofs.Lawful.{lawful}
use Rattle.depth_maker.proofs.laws.derived_assignment_laws.Goals as goal

pub returns-clause-below : goal.returns-clause-below
returns-clause-below g b image plan c a ground closed faultless well_formed d = (derived_below b image plan (lawful b image plan ground) c closed faultless well_formed a d).0

pub returns-clause-faults : goal.returns-clause-faults
returns-clause-faults g b image plan c r k p ground closed faultless well_formed within f = fault_refuted b image plan (lawful b image plan ground) c closed faultless well_formed within r k p f
