use Rattle.std.proofs.Common.{map, refl, arith}
use Rattle.tc_stmt.specs.Items.{item_of}
use Rattle.tc_asm.proofs.KnownSymbols.{kept_items, kept_rules, kept_none, kept_end, kept_rules_end}
use Rattle.tc_asm.proofs.put_checked_items.check_and_add_items.Goals as goal

pub loop-item-init : goal.loop-item-init
loop-item-init c = record { draft = refl; rule = kept_none c.args.known c.args.labels.now c.args.draft.now (map item_of c.args.items.now); small = omega arith }

pub loop-item-preserved : goal.loop-item-preserved
loop-item-preserved c = record {
  draft = kept_items c.args.known c.args.labels.now c.args.items.now c.loop-item.item-index _ (omega arith) c.loop-item.draft _ _ c.in_ok-check_and_add_item.ensures.draft c.loop-item.invariant.draft;
  rule = kept_rules c.args.known c.args.labels.now c.args.items.now c.loop-item.item-index _ (omega arith) c.loop-item.draft _ _ _ _ _ c.in_ok-check_and_add_item.ensures.draft c.in_ok-check_and_add_item.ensures.rule c.min-rule.ensures c.loop-item.invariant.rule;
  small = omega arith;
}

pub returns-clause-draft : goal.returns-clause-draft
returns-clause-draft c = kept_end c.args.known c.args.labels.now c.args.items.now c.loop-item.item-index c.loop-item.draft _ (omega arith) c.loop-item.invariant.draft

pub returns-clause-rule : goal.returns-clause-rule
returns-clause-rule c = kept_rules_end c.args.known c.args.labels.now c.args.items.now c.loop-item.item-index c.loop-item.draft c.loop-item.rule _ (omega arith) (omega arith) c.loop-item.invariant.rule
