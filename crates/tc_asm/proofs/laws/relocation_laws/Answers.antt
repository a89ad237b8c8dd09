use Rattle.tc_asm.proofs.SourceRelocs.{object_sections_law, relocations_law}
use Rattle.tc_asm.proofs.Unfilled.{unfilled_law}
use Rattle.tc_asm.proofs.laws.relocation_laws.Goals as goal

pub returns-clause-sections : goal.returns-clause-sections
returns-clause-sections c = object_sections_law

pub returns-clause-relocations : goal.returns-clause-relocations
returns-clause-relocations c = relocations_law

pub returns-clause-unfilled : goal.returns-clause-unfilled
returns-clause-unfilled c = unfilled_law
