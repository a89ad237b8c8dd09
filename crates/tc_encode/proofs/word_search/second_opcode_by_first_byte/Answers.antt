use Rattle.tc_encode.proofs.Finds.{second_at}
use Rattle.tc_encode.proofs.word_search.second_opcode_by_first_byte.Goals as goal

pub returns : goal.returns
returns c = λ place r at first. second_at c.form_of_first_byte.result place c.args.first c.second_opcode.result c.args.w r c.form_of_first_byte.ensures c.second_opcode.ensures at first
