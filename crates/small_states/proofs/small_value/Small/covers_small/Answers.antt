use Rattle.std.proofs.Common.{refl, subst}
use Rattle.value_domain.specs.declared.values.Val.{Val}
use Rattle.value_domain.specs.Values.{IsMember}
use Rattle.small_states.proofs.small_value.Small.covers_small.Goals as goal

pub returns-then-is_equal : goal.returns-then-is_equal
returns-then-is_equal c = ((λ t x m. subst (λ (u : Val). IsMember x u) (c.is_equal.ensures c.if-is_equal.true) m), (λ below. refl))
