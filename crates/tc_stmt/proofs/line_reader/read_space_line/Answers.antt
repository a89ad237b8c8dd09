use Rattle.std.proofs.Common.{sym, subst, arith}
use Rattle.tc_stmt.specs.Lines.{LineData}
use Rattle.tc_stmt.specs.SourceViews.{GivesRuleAndAddsItems}
use Rattle.tc_stmt.proofs.LoopLaws.{space_line-one, space_line-other}
use Rattle.tc_stmt.proofs.line_reader.read_space_line.Goals as goal

pub returns-then-os-ne1 : goal.returns-then-os-ne1
returns-then-os-ne1 c =
    let P : LineData → Type 0 = λ l. GivesRuleAndAddsItems l c.add_item.result c.args.items.now.items c.add_item.new.items.items in
    subst P (sym (space_line-other c.args.os.now c.if-os-ne1.true)) c.add_item.ensures

pub returns : goal.returns
returns c =
    let P : LineData → Type 0 = λ l. GivesRuleAndAddsItems l c.read_space_operand.result c.args.items.now.items c.read_space_operand.new.items.items in
    subst P (sym (space_line-one c.args.os.now _ (omega arith))) c.read_space_operand.ensures
