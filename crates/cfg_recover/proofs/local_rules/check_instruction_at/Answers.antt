use Rattle.cfg_recover.proofs.LocalLaws.{IsLocalFault-broken, FindsFaultless-whole}
use Rattle.cfg_recover.proofs.local_rules.check_instruction_at.Goals as goal

pub returns-in-Some-local_fault : goal.returns-in-Some-local_fault
returns-in-Some-local_fault c = IsLocalFault-broken c.args.b.now c.args.image.now c.args.plan.now c.args.key.now c.args.addr c.args.s.now _ _ _ c.in-Some.ensures (c.in-Some-local_fault.ensures c.args.addr)

pub returns-in-None : goal.returns-in-None
returns-in-None c = FindsFaultless-whole c.args.b.now c.args.image.now c.args.plan.now c.args.key.now c.args.addr c.args.s.now _ _ c.in-Some.ensures (c.in-None.ensures c.args.addr)
