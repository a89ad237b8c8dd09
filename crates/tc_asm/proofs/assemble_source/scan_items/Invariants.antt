use Rattle.std.proofs.Common.{◌≡◌, ◌&&◌, [], take, drop, map, fold}
use Rattle.tc_stmt.specs.Items.{item_of}
use Rattle.tc_asm.specs.AlikeDrafts.{HaveSameSizesAndSymbols}
use Rattle.tc_asm.specs.Drafts.{draft_after_item}
use Rattle.tc_asm.specs.KnownSymbols.{are_new_with_room}
use Rattle.tc_asm.proofs.assemble_source.scan_items.Given as goal

abbrev pub invariant-loop-item : goal.invariant-loop-item
invariant-loop-item l = record {
  alike : HaveSameSizesAndSymbols l.draft (fold (draft_after_item []) l.initial.draft (take l.item-index (map item_of l.items)));
  new : (l.all_new && are_new_with_room [] (fold (draft_after_item []) l.initial.draft (take l.item-index (map item_of l.items))) (drop l.item-index (map item_of l.items))) ≡ are_new_with_room [] l.initial.draft (map item_of l.items);
}
