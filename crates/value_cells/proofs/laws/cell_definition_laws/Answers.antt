use Rattle.value_cells.proofs.CellRanges.{ram_in, ram_out, ram_has}
use Rattle.value_cells.proofs.ReadOne.{reads_one}
use Rattle.value_cells.proofs.PlainWords.{all_in_bounds, one_in_bounds}
use Rattle.value_cells.proofs.laws.cell_definition_laws.Goals as goal

pub returns-clause-ram : goal.returns-clause-ram
returns-clause-ram c = λ plan cells x. (λ h. (ram_in cells plan.ram x 1 h, ram_out cells plan.ram x h), λ h. ram_has cells plan.ram x h.0 h.1)

pub returns-clause-stays : goal.returns-clause-stays
returns-clause-stays c = λ image plan cells most m es e d safe starts bounds fit fits member.
    let at = safe m es e starts (all_in_bounds m.mem cells bounds) fit fits in
    let one = one_in_bounds _ cells d at.bounds member in
    (at.safe, one.0, one.1)

pub returns-clause-one : goal.returns-clause-one
returns-clause-one c = reads_one
