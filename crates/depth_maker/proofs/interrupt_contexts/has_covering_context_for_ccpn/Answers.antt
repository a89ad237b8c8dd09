use Rattle.depth_maker.proofs.interrupt_contexts.has_covering_context_for_ccpn.Goals as goal

pub returns-in-Some : goal.returns-in-Some
returns-in-Some c t = record { context = c.in-Some.last; last = c.in-Some.is; within = c.covers_any_sp.ensures t }
