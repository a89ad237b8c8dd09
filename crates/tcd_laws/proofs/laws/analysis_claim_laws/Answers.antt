use Rattle.tcd_laws.proofs.Claims.Booting.{boot_claims, boot_refusals}
use Rattle.tcd_laws.proofs.Claims.CellsAndTasks.{cells_claims, cells_refuses, cellcert_claims, cellcert_refuses, tasks_claims, tasks_refuses, taskcert_claims, taskcert_refuses}
use Rattle.tcd_laws.proofs.laws.analysis_claim_laws.Goals as goal

pub returns-clause-boot : goal.returns-clause-boot
returns-clause-boot c = boot_claims

pub returns-clause-boot_refuses : goal.returns-clause-boot_refuses
returns-clause-boot_refuses c = boot_refusals

pub returns-clause-cells : goal.returns-clause-cells
returns-clause-cells c = cells_claims

pub returns-clause-cells_refuses : goal.returns-clause-cells_refuses
returns-clause-cells_refuses c = cells_refuses

pub returns-clause-cellcert : goal.returns-clause-cellcert
returns-clause-cellcert c = cellcert_claims

pub returns-clause-cellcert_refuses : goal.returns-clause-cellcert_refuses
returns-clause-cellcert_refuses c = cellcert_refuses

pub returns-clause-tasks : goal.returns-clause-tasks
returns-clause-tasks c = tasks_claims

pub returns-clause-tasks_refuses : goal.returns-clause-tasks_refuses
returns-clause-tasks_refuses c = tasks_refuses

pub returns-clause-taskcert : goal.returns-clause-taskcert
returns-clause-taskcert c = taskcert_claims

pub returns-clause-taskcert_refuses : goal.returns-clause-taskcert_refuses
returns-clause-taskcert_refuses c = taskcert_refuses
