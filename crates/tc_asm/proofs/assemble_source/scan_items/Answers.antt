use Rattle.std.proofs.Common.{refl, arith}
use Rattle.tc_asm.proofs.AlikeDrafts.{alike_same, alike_next, alike_end}
use Rattle.tc_asm.proofs.KnownSymbols.{new_more, new_end}
use Rattle.tc_asm.proofs.assemble_source.scan_items.Goals as goal

pub loop-item-init : goal.loop-item-init
loop-item-init c = record { alike = alike_same c.args.draft.now; new = refl }

pub scan_item-requires-clause-added : goal.scan_item-requires-clause-added
scan_item-requires-clause-added c = c.requires c.loop-item.item-index _ (omega arith)

pub loop-item-preserved : goal.loop-item-preserved
loop-item-preserved c = record {
  alike = alike_next c.args.items.now c.loop-item.item-index c.loop-item.draft c.args.draft.now c.loop-item.invariant.alike _ _ (omega arith) c.in_ok-new.ensures.alike;
  new = new_more c.args.items.now c.loop-item.item-index _ (omega arith) c.loop-item.draft c.args.draft.now c.loop-item.all_new _ _ _ _ c.loop-item.invariant.alike c.has_symbol_room-room.ensures c.in_ok-new.ensures.new c.are_items_new-all_new.ensures c.loop-item.invariant.new;
}

pub returns-clause-symbols : goal.returns-clause-symbols
returns-clause-symbols c = alike_end c.args.items.now c.loop-item.item-index c.loop-item.draft c.args.draft.now c.loop-item.invariant.alike (omega arith)

pub returns-clause-new : goal.returns-clause-new
returns-clause-new c = new_end c.args.items.now c.loop-item.item-index _ c.loop-item.all_new _ (omega arith) c.loop-item.invariant.new
