-- The values that are to be covered.
use Rattle.std.specs.Prelude.{List, ℕ, slice_index_or}
use Rattle.value_domain.specs.declared.values.Val.{Val}
use Rattle.vd_transfer.specs.Changes.{state_after}
use Rattle.depth_cert.specs.Exits.{lower_values}
use Rattle.packed_cert.specs.declared.covered_values.ToCover.{ToCover}
use Rattle.packed_cert.specs.declared.covered_values.ToCover.TheVariants.{Whole, Changed, Lower}
use Rattle.value_domain.specs.declared.states.State.{State}
use Rattle.value_domain.specs.Values.{any_val, IsBelow}
use Rattle.vd_transfer.specs.declared.change.Change.{Change}

-- the values that a certificate is to cover: all of a state, all of a changed one, or those of the
-- lower registers
abbrev pub values_to_cover : ToCover → List Val
values_to_cover (Whole s) = (s.now).regs
values_to_cover (Changed s c) = (state_after s.now c.now).regs
values_to_cover (Lower s) = lower_values (s.now).regs

-- in slot i, the value of a state after a change is below the unchanged state's value
abbrev pub IsChangedValueBelow : State → Change → ℕ → Type 0
IsChangedValueBelow s c i = IsBelow (slice_index_or (state_after s c).regs i any_val) (slice_index_or s.regs i any_val)
