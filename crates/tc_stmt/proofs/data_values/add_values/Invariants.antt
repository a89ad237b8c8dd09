use Rattle.std.proofs.Common.{◌≡◌, ◌++◌, take, map, fold, min}
use Rattle.tc_lex.specs.Operands.{operand_of}
use Rattle.tc_stmt.specs.Items.{item_of}
use Rattle.tc_stmt.specs.DataValues.{rule_broken_by_value, value_item}
use Rattle.tc_stmt.proofs.data_values.add_values.Given as goal

abbrev pub invariant-loop-o : goal.invariant-loop-o
invariant-loop-o l = record {
  rule : l.rule ≡ fold (λ rule o. min rule (rule_broken_by_value l.width o)) l.initial.rule (take l.o-index (map operand_of l.os));
  items : map item_of l.items.items ≡ map item_of l.initial.items.items ++ map (value_item l.width) (take l.o-index (map operand_of l.os));
}
