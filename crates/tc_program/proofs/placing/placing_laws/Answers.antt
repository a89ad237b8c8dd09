use Rattle.tc_program.proofs.Laws.{segments_law, entry_law}
use Rattle.tc_program.proofs.Whole.{placed_law, symbols_law}
use Rattle.tc_program.proofs.Spelled.{fields_law}
use Rattle.tc_program.proofs.Jumps.{jumps_law}
use Rattle.tc_program.proofs.placing.placing_laws.Goals as goal

pub returns-clause-segments : goal.returns-clause-segments
returns-clause-segments c = segments_law

pub returns-clause-entry : goal.returns-clause-entry
returns-clause-entry c = entry_law

pub returns-clause-symbols : goal.returns-clause-symbols
returns-clause-symbols c = symbols_law

pub returns-clause-placed : goal.returns-clause-placed
returns-clause-placed c = placed_law

pub returns-clause-jumps : goal.returns-clause-jumps
returns-clause-jumps c = jumps_law

pub returns-clause-fields : goal.returns-clause-fields
returns-clause-fields c = fields_law
