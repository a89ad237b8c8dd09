-- The value that a compact form stands for.
use Rattle.std.specs.Prelude.{◌∷◌, []}
use Rattle.value_domain.specs.declared.values.Val.{Val}
use Rattle.value_domain.specs.Values.{any_val}
use Rattle.value_domain.specs.declared.values.Val.TheVariants.{Set, Span}
use Rattle.small_states.specs.declared.small_value.SmallForm.{SmallForm}
use Rattle.small_states.specs.declared.small_value.SmallForm.TheVariants.{Any, One, Many, Range}

-- the whole value that the form of a compact one stands for
abbrev pub whole_value : SmallForm → Val
whole_value Any = any_val
whole_value (One x) = Set (x ∷ [])
whole_value (Many own) = own.value
whole_value (Range lo last step) = Span lo last step
