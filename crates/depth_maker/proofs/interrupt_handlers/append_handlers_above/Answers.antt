use Rattle.std.proofs.Common.{sym, ap, refl, ◌∙◌, ◌++◌, List, arith}
use Rattle.std.proofs.lemmas.List.{append-nil, take_all}
use Rattle.depth_maker.specs.InterruptHandlers.{handler_nodes_above}
use Rattle.depth_maker.specs.declared.interrupt_handlers.Handler.{Handler}
use Rattle.depth_maker.proofs.HandlerLaws.{above_more}
use Rattle.depth_maker.proofs.interrupt_handlers.append_handlers_above.Goals as goal

pub loop-h-init : goal.loop-h-init
loop-h-init c = (sym (append-nil c.args.into.now.items), omega arith, refl)

pub append_handler_if_above-requires : goal.append_handler_if_above-requires
append_handler_if_above-requires c = omega (arith, c.requires, c.loop-h.invariant.1, c.loop-h.invariant.2, c.loop-h-test.true)

pub loop-h-preserved : goal.loop-h-preserved
loop-h-preserved c = (
  above_more c.args.ccpn c.args.into.now.items c.loop-h.into.items _ c.args.handlers.now c.loop-h.h-index _ c.loop-h-test.true c.loop-h.invariant.0 c.append_handler_if_above.ensures.items,
  omega (arith, c.loop-h.invariant.1, c.append_handler_if_above.ensures.few),
  c.append_handler_if_above.ensures.capacity ∙ c.loop-h.invariant.2,
)

pub returns : goal.returns
returns c = c.loop-h.invariant.0 ∙ ap (λ (l : List Handler). c.args.into.now.items ++ handler_nodes_above c.args.ccpn l) (take_all c.loop-h.h-index c.args.handlers.now c.loop-h-test.false)
