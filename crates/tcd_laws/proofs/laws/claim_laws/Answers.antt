use Rattle.tcd_laws.proofs.Claims.Checking.{check_claims, report_claims}
use Rattle.tcd_laws.proofs.Claims.Making.{cert_claims, ship_claims, cfg_claims, gen_claims}
use Rattle.tcd_laws.proofs.Claims.Running.{run_claims, dis_claims, peaks_are_needed}
use Rattle.tcd_laws.proofs.laws.claim_laws.Goals as goal

pub returns-clause-check : goal.returns-clause-check
returns-clause-check c = check_claims

pub returns-clause-cert : goal.returns-clause-cert
returns-clause-cert c = cert_claims

pub returns-clause-ship : goal.returns-clause-ship
returns-clause-ship c = ship_claims

pub returns-clause-report : goal.returns-clause-report
returns-clause-report c = report_claims

pub returns-clause-cfg : goal.returns-clause-cfg
returns-clause-cfg c = cfg_claims

pub returns-clause-generate : goal.returns-clause-generate
returns-clause-generate c = gen_claims

pub returns-clause-dis : goal.returns-clause-dis
returns-clause-dis c = dis_claims

pub returns-clause-run : goal.returns-clause-run
returns-clause-run c = run_claims

pub returns-clause-peaks : goal.returns-clause-peaks
returns-clause-peaks c = peaks_are_needed
