use Rattle.std.proofs.Common.{arith}
use Rattle.depth_maker.proofs.HandlerLaws.{above_one}
use Rattle.depth_maker.proofs.interrupt_handlers.append_handler_if_above.Goals as goal

pub returns-clause-items : goal.returns-clause-items
returns-clause-items c = above_one c.args.ccpn c.args.into.now.items _ c.args.handler.now (omega arith) c.push_reserved.ensures.items
