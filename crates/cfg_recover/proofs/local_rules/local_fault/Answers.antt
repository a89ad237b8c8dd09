use Rattle.std.proofs.Common.{subst}
use Rattle.tc_isa.specs.declared.shapes.Shape.{Shape}
use Rattle.cfg_recover.specs.LocalFaults.{IsLeastLocalFault}
use Rattle.cfg_recover.proofs.local_rules.local_fault.Goals as goal

pub returns : goal.returns
returns c p = subst (λ (shape : Shape). IsLeastLocalFault c.args.b.now c.args.plan.now c.args.key.now p c.args.s.now shape c.local_fault_of_shape.result) c.shape.ensures.shape (c.local_fault_of_shape.ensures p)
