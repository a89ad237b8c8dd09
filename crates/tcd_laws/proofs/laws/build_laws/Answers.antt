use Rattle.tcd_laws.proofs.BuildSequences.{builds_report, builds_end}
use Rattle.tcd_laws.proofs.laws.build_laws.Goals as goal

pub returns-clause-reports : goal.returns-clause-reports
returns-clause-reports c = builds_report

pub returns-clause-ends : goal.returns-clause-ends
returns-clause-ends c = builds_end
