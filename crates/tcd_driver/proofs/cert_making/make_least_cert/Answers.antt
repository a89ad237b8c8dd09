use Rattle.cfg_recover.proofs.FaultLaws.{fails_refutes}
use Rattle.tcd_driver.specs.BestCert.{IsLeastCertOrErr}
use Rattle.tcd_reading.proofs.Told.{passed_on}
use Rattle.tcd_driver.proofs.cert_making.make_least_cert.Goals as goal

pub returns : goal.returns
returns c = record {
  is_cert = c.version-version.ensures.limits;
  made = c.in_ok-cert.ensures.made;
  safe = c.in-Yes.ensures.safe;
  need_is = c.in-Yes.ensures.judges.1;
}

pub unreachable-requires : goal.unreachable-requires
unreachable-requires c = fails_refutes c.args.image.now c.args.plan.now _ _ _ _ (c.in-No.ensures.judges).fails (c.in_ok-cert.ensures.made).accepted

pub returns-in_err-cert : goal.returns-in_err-cert
returns-in_err-cert c = passed_on (IsLeastCertOrErr c.args.image.now c.args.plan.now c.args.version) c.from_residual.result _ c.from_residual.ensures.1 c.in_err-cert.ensures.refused
