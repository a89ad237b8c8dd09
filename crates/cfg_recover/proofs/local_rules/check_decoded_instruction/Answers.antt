use Rattle.std.proofs.Common.{subst}
use Rattle.std.specs.Prelude.{Option}
use Rattle.cfg_recover.specs.declared.local_rules.Located.{Located}
use Rattle.cfg_recover.specs.Code.{FindsShapeAndSize}
use Rattle.cfg_recover.proofs.LocalLaws.{IsLocalFault-broken, LocalHolds-found}
use Rattle.cfg_recover.proofs.local_rules.check_decoded_instruction.Goals as goal

pub returns-in-Some-local_fault_of_shape-clause-fault : goal.returns-in-Some-local_fault_of_shape-clause-fault
returns-in-Some-local_fault_of_shape-clause-fault c image p there =
    let code = subst (λ (o : Option Located). FindsShapeAndSize image c.args.plan.now p o) c.in-Some.is there in
    IsLocalFault-broken c.args.b.now image c.args.plan.now c.args.key.now p c.args.s.now _ _ _ code (c.in-Some-local_fault_of_shape.ensures p)

pub returns-in-None-clause-found : goal.returns-in-None-clause-found
returns-in-None-clause-found c image p there =
    let code = subst (λ (o : Option Located). FindsShapeAndSize image c.args.plan.now p o) c.in-Some.is there in
    record {
      faultless = λ r. LocalHolds-found c.args.b.now image c.args.plan.now c.args.key.now p c.args.s.now _ _ r code (c.in-None.ensures p r);
      code = code;
      shape = rw c.in-Some.is at c.requires.shape;
    }
