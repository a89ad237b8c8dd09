use Rattle.std.proofs.Common.{◌≡◌, ◌≤◌, ◌+◌, ◌++◌, take}
use Rattle.std.specs.Prelude.{vec_capacity, vec_len}
use Rattle.depth_maker.specs.InterruptHandlers.{handler_nodes_above}
use Rattle.depth_maker.proofs.interrupt_handlers.append_handlers_above.Given as goal

abbrev pub invariant-loop-h : goal.invariant-loop-h
invariant-loop-h l =
    (l.into.items ≡ l.initial.into.items ++ handler_nodes_above l.ccpn (take l.h-index l.handlers))
    × (vec_len l.into ≤ vec_len l.initial.into + l.h-index)
    × (vec_capacity l.into ≡ vec_capacity l.initial.into)
