use Rattle.tcd_laws.proofs.Claims.Building.{asm_claims, link_claims, bootgen_claims, builds_refuse_nothing}
use Rattle.tcd_laws.proofs.laws.build_claim_laws.Goals as goal

pub returns-clause-asm : goal.returns-clause-asm
returns-clause-asm c = asm_claims

pub returns-clause-link : goal.returns-clause-link
returns-clause-link c = link_claims

pub returns-clause-bootgen : goal.returns-clause-bootgen
returns-clause-bootgen c = bootgen_claims

pub returns-clause-refuse : goal.returns-clause-refuse
returns-clause-refuse c = builds_refuse_nothing
