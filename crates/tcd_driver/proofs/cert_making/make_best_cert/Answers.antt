use Rattle.tcd_driver.specs.BestCert.{first}
use Rattle.tcd_driver.proofs.MakingLaws.{best_least, best_second}
use Rattle.tcd_driver.proofs.cert_making.make_best_cert.Goals as goal

pub returns-in-Ok : goal.returns-in-Ok
returns-in-Ok c = best_least c.args.image.now c.args.plan.now 1 _ _ (first (c.in-Ok.ensures).made) c.in-Ok.ensures

pub returns-in-Err-Refused : goal.returns-in-Err-Refused
returns-in-Err-Refused c =
    best_second c.args.image.now c.args.plan.now _ (rw c.in-Err-Refused.field-0-is at c.in-Err-Refused.ensures).1 c.make_least_cert-in-Err-Refused.ensures
