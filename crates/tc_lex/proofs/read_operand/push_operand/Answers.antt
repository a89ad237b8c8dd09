use Rattle.std.proofs.Common.{ap, ◌∙◌, map}
use Rattle.std.proofs.lemmas.List.{map_push}
use Rattle.tc_lex.specs.Operands.{operand_of}
use Rattle.tc_lex.proofs.read_operand.push_operand.Goals as goal

pub returns-clause-operands : goal.returns-clause-operands
returns-clause-operands c = ap (map operand_of) c.push.ensures.items ∙ map_push operand_of c.args.out.now.items c.args.operand
