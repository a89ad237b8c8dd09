use Rattle.std.proofs.Common.{sym, arith}
use Rattle.tc_stmt.proofs.LoopLaws.{word_of-other, word_of-yes, word_of-no}
use Rattle.tc_stmt.proofs.line_reader.only_operand_name.Goals as goal

pub returns-then-os-ne1 : goal.returns-then-os-ne1
returns-then-os-ne1 c = sym (word_of-other c.args.os.now c.if-os-ne1.true)

pub returns-then-is_unbracketed_name : goal.returns-then-is_unbracketed_name
returns-then-is_unbracketed_name c = word_of-yes c.args.os.now _ _ (omega arith) c.is_unbracketed_name.ensures c.if-is_unbracketed_name.true

pub returns-else-is_unbracketed_name : goal.returns-else-is_unbracketed_name
returns-else-is_unbracketed_name c = word_of-no c.args.os.now _ _ (omega arith) c.is_unbracketed_name.ensures c.if-is_unbracketed_name.false
