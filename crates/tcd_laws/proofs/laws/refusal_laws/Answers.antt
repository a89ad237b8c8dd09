use Rattle.tcd_laws.proofs.Claims.Checking.{check_refuses, report_refuses}
use Rattle.tcd_laws.proofs.Claims.Making.{cert_refuses, ship_refuses, cfg_refuses, gen_refuses}
use Rattle.tcd_laws.proofs.laws.refusal_laws.Goals as goal

pub returns-clause-check : goal.returns-clause-check
returns-clause-check c = check_refuses

pub returns-clause-cert : goal.returns-clause-cert
returns-clause-cert c = cert_refuses

pub returns-clause-ship : goal.returns-clause-ship
returns-clause-ship c = ship_refuses

pub returns-clause-report : goal.returns-clause-report
returns-clause-report c = report_refuses

pub returns-clause-cfg : goal.returns-clause-cfg
returns-clause-cfg c = cfg_refuses

pub returns-clause-generate : goal.returns-clause-generate
returns-clause-generate c = gen_refuses
