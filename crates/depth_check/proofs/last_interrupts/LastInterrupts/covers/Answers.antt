use Rattle.depth_check.proofs.InterruptLaws.{covered_holds}
use Rattle.depth_check.proofs.last_interrupts.LastInterrupts.covers.Goals as goal

pub returns-then-context_covers : goal.returns-then-context_covers
returns-then-context_covers c = λ t plan cert kept. covered_holds plan cert c.args.node.now c.args.self.now.last c.args.s.now kept.last (c.context_covers.ensures c.if-context_covers.true)

pub returns : goal.returns
returns c = λ t plan cert kept. covered_holds plan cert c.args.node.now c.args.self.now.before c.args.s.now kept.before (c.context_covers-2.ensures t)
