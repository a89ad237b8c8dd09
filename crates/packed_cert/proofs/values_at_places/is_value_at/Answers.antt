use Rattle.std.proofs.Common.{subst}
use Rattle.std.specs.Prelude.{IsTrue, ◌↔◌}
use Rattle.value_domain.specs.declared.values.Val.{Val}
use Rattle.value_domain.specs.Values.{IsInLattice}
use Rattle.packed_cert.proofs.values_at_places.is_value_at.Goals as goal

pub returns : goal.returns
returns c = subst (λ (v : Val). IsTrue c.is_value.result ↔ IsInLattice c.args.b.now v) c.value_at_offset.ensures c.is_value.ensures
