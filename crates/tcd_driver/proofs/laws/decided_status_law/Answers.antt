use Rattle.tcd_driver.proofs.SureCalls.{sure_calls}
use Rattle.tcd_driver.proofs.laws.decided_status_law.Goals as goal

pub returns : goal.returns
returns g c = sure_calls g.C.AnyEnds.IfDone g.C.AnyEnds.IfRefused
