use Rattle.tc_stmt.proofs.NumberLaws.{number_law}
use Rattle.tc_stmt.proofs.StatedRows.{stated_law}
use Rattle.tc_stmt.proofs.laws.number_and_statement_laws.Goals as goal

pub returns-clause-numbers : goal.returns-clause-numbers
returns-clause-numbers c = number_law

pub returns-clause-stated : goal.returns-clause-stated
returns-clause-stated c = stated_law
