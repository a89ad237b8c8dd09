use Rattle.value_domain.proofs.CoverLaws.{cover_least, member_same}
use Rattle.value_domain.proofs.JoinLaws.{join_least}
use Rattle.value_domain.proofs.FloorLaws.{has_thresholds}
use Rattle.value_domain.proofs.laws.value_laws.Goals as goal

pub returns-clause-members : goal.returns-clause-members
returns-clause-members c = member_same

pub returns-clause-closure : goal.returns-clause-closure
returns-clause-closure c = cover_least

pub returns-clause-joins : goal.returns-clause-joins
returns-clause-joins c = join_least

pub returns-clause-thresholds : goal.returns-clause-thresholds
returns-clause-thresholds c = has_thresholds
