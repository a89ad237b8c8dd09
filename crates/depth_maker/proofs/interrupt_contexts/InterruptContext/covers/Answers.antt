use Rattle.std.proofs.Common.{rules}
use Rattle.depth_maker.proofs.interrupt_contexts.InterruptContext.covers.Goals as goal

pub returns-then-self-s : goal.returns-then-self-s
returns-then-self-s c told = record { same = search rules; above = search rules; below = c.covers_sp.ensures told }
