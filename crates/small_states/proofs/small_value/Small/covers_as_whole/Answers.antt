use Rattle.std.proofs.Common.{◌↔◌, IsTrue, subst}
use Rattle.value_domain.specs.declared.values.Val.{Val}
use Rattle.value_domain.specs.Values.{IsBelow}
use Rattle.small_states.proofs.small_value.Small.covers_as_whole.Goals as goal

pub returns : goal.returns
returns c = subst (λ (u : Val). IsTrue c.covers.result ↔ IsBelow u c.args.self.now) c.value.ensures c.covers.ensures
