use Rattle.tc_object.proofs.FromLaws.{read_is_object}
use Rattle.tc_object.proofs.borrowed.ObjectRef.read.Goals as goal

pub invariant_of-result : goal.invariant_of-result
invariant_of-result c = (read_is_object c.args.bytes.now _ (λ k. (c.type_inv.bytes k).fits) c.in_ok-parts.ensures.ok).1

pub returns-clause-one : goal.returns-clause-one
returns-clause-one c = (read_is_object c.args.bytes.now _ (λ k. (c.type_inv.bytes k).fits) c.in_ok-parts.ensures.ok).0
