use Rattle.std.proofs.Common.{subst, sym}
use Rattle.tc_isa.specs.declared.shapes.Shape.{Shape}
use Rattle.cfg_recover.specs.Code.{IsCode}
use Rattle.cfg_recover.proofs.LocalLaws.{IsLocalFault-broken, LocalHolds-found}
use Rattle.cfg_recover.proofs.local_rules.check_local_rules.Goals as goal

pub returns-in-Some-local_fault_of_shape-clause-fault : goal.returns-in-Some-local_fault_of_shape-clause-fault
returns-in-Some-local_fault_of_shape-clause-fault c =
    IsLocalFault-broken c.args.b.now c.args.image.now c.args.plan.now c.args.key.now c.args.addr c.args.s.now _ _ _
    (subst (λ (x : Shape). IsCode c.args.image.now c.args.plan.now c.args.addr x c.in-Some.found.1) (sym c.shape-shape.ensures.shape) c.in-Some.ensures) (c.in-Some-local_fault_of_shape.ensures c.args.addr)

pub returns-in-None-clause-found : goal.returns-in-None-clause-found
returns-in-None-clause-found c =
    let code = subst (λ (x : Shape). IsCode c.args.image.now c.args.plan.now c.args.addr x c.in-Some.found.1) (sym c.shape-shape.ensures.shape) c.in-Some.ensures in
    record {
      faultless = λ r. LocalHolds-found c.args.b.now c.args.image.now c.args.plan.now c.args.key.now c.args.addr c.args.s.now _ _ r code (c.in-None.ensures c.args.addr r);
      code = code;
      shape = c.shape-shape.ensures.bounded;
    }
