use Rattle.tc_isa.proofs.ShapeBounds.{shape_is, names_listed}
use Rattle.tc_isa.proofs.shape_of_instruction.shape_laws.Goals as goal

pub returns : goal.returns
returns c = record { bounded = shape_is; names = names_listed }
