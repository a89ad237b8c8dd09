use Rattle.std.proofs.Common.{List, sym, subst}
use Rattle.std.specs.Prelude.{IsTrue, ◌↔◌}
use Rattle.value_domain.specs.declared.values.Val.{Val}
use Rattle.value_domain.specs.State.{AreInLattice}
use Rattle.packed_cert.proofs.exits.ExitAt.has_lattice_values.Goals as goal

pub returns : goal.returns
returns c = subst (λ (l : List Val). IsTrue c.are_values_at.result ↔ AreInLattice c.args.b.now l) (sym c.lower-lower.ensures.values) c.are_values_at.ensures
