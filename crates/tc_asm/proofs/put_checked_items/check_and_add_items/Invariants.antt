use Rattle.std.proofs.Common.{◌≡◌, ◌≤◌, drop, map, fold, min}
use Rattle.tc_stmt.specs.Items.{item_of}
use Rattle.tc_asm.specs.Drafts.{draft_after_item}
use Rattle.tc_asm.specs.KnownSymbols.{without_symbols_if, rule_broken_in_second_pass}
use Rattle.tc_asm.proofs.put_checked_items.check_and_add_items.Given as goal

abbrev pub invariant-loop-item : goal.invariant-loop-item
invariant-loop-item l = record {
  draft : without_symbols_if l.known (fold (draft_after_item l.labels) l.draft (drop l.item-index (map item_of l.items))) ≡ without_symbols_if l.known (fold (draft_after_item l.labels) l.initial.draft (map item_of l.items));
  rule : min l.rule (rule_broken_in_second_pass l.known l.labels l.draft (drop l.item-index (map item_of l.items))) ≡ rule_broken_in_second_pass l.known l.labels l.initial.draft (map item_of l.items);
  small : l.rule ≤ 15;
}
