use Rattle.std.proofs.Common.{List, take}
use Rattle.depth_cert.specs.declared.keys.Key.{Key}
use Rattle.frame_places.specs.Numbers.{AreFrameNumbers}
use Rattle.depth_maker.specs.InterruptHandlers.{AreHandlersOfIrqs}
use Rattle.depth_maker.proofs.interrupt_handlers.irq_handlers.Given as goal

abbrev pub invariant-loop-p : goal.invariant-loop-p
invariant-loop-p l = (frames : List Key) → AreFrameNumbers l.numbers frames frames → AreHandlersOfIrqs l.plan frames (take l.p-index l.irqs) l.handlers.items
