use Rattle.tc_reloc.proofs.FilledRows.{fits_law, written_law}
use Rattle.tc_reloc.proofs.laws.relocation_filling_laws.Goals as goal

pub returns-clause-fits : goal.returns-clause-fits
returns-clause-fits c = fits_law

pub returns-clause-written : goal.returns-clause-written
returns-clause-written c = written_law
