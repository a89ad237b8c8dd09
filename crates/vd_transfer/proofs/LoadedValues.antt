-- What an instruction uses of the value that was loaded.
use Rattle.tc_isa.specs.declared.shapes.Shape.{Shape}
use Rattle.tc_isa.specs.declared.shapes.Shape.TheVariants.{Load}
use Rattle.value_domain.specs.declared.values.Val.{Val}
use Rattle.value_domain.specs.Limits.{Limits}
use Rattle.value_domain.specs.Values.{IsInLattice}
use Rattle.vd_transfer.specs.EffectsOnStates.{LoadedIsInLattice}

-- any value will do, unless the instruction is a load
pub loaded_is : (b : Limits) (shape : Shape) (v : Val) → IsInLattice b v → LoadedIsInLattice b shape v
loaded_is b (Load dst base offset size signed after) v value = value
loaded_is b _ v value = tt
