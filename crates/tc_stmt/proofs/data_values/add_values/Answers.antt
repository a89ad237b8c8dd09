use Rattle.std.proofs.Common.{map, ap, ◌∙◌, arith}
use Rattle.std.proofs.lemmas.List.{map_push}
use Rattle.tc_lex.specs.Operands.{operand_of}
use Rattle.tc_stmt.specs.Items.{item_of}
use Rattle.tc_stmt.specs.DataValues.{value_item}
use Rattle.tc_stmt.proofs.LoopLaws.{pushed_view, rule_more}
use Rattle.tc_stmt.proofs.data_values.add_values.Goals as goal

pub loop-o-preserved : goal.loop-o-preserved
loop-o-preserved c = record {
  rule = rule_more c.args.width c.args.os.now c.loop-o.o-index _ _ c.loop-o.rule _ _ (omega arith) c.min-rule.ensures c.rule_broken_by_value-broken.ensures.value c.loop-o.invariant.rule;
  items = pushed_view operand_of (value_item c.args.width) (map item_of c.args.items.now.items) c.args.os.now c.loop-o.o-index _
      (map item_of c.loop-o.items.items) (map item_of c.push.new.self.items) (item_of c.value_item.result) (omega arith)
      (ap (map item_of) c.in_ok-push.ensures.items ∙ map_push item_of c.loop-o.items.items c.value_item.result) c.value_item.ensures c.loop-o.invariant.items;
}
