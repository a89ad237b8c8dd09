use Rattle.tc_asm.proofs.LaidLaws.{drafted-bytes, stands}
use Rattle.tc_asm.proofs.laws.section_laws.Goals as goal

pub returns-clause-sections : goal.returns-clause-sections
returns-clause-sections c = drafted-bytes

pub returns-clause-offsets : goal.returns-clause-offsets
returns-clause-offsets c = stands
