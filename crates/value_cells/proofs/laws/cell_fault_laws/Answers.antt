use Rattle.value_cells.proofs.GrowthLaws.{cell_faults_grow, lesser_keeps_cells, cell_faults_refute}
use Rattle.value_cells.proofs.laws.cell_fault_laws.Goals as goal

pub returns-clause-grow : goal.returns-clause-grow
returns-clause-grow c = cell_faults_grow

pub returns-clause-lesser : goal.returns-clause-lesser
returns-clause-lesser c = lesser_keeps_cells

pub returns-clause-refute : goal.returns-clause-refute
returns-clause-refute c = cell_faults_refute
