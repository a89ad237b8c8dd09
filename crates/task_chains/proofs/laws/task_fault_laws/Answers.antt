use Rattle.task_chains.proofs.GrowthLaws.{task_faults_grow, task_faults_refute}
use Rattle.task_chains.proofs.laws.task_fault_laws.Goals as goal

pub returns-clause-grow : goal.returns-clause-grow
returns-clause-grow c = task_faults_grow

pub returns-clause-refute : goal.returns-clause-refute
returns-clause-refute c = task_faults_refute
