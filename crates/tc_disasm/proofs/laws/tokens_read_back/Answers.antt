use Rattle.tc_disasm.proofs.Lexing.{front_of-word, front_of-digits, lexed-front}
use Rattle.tc_disasm.proofs.laws.tokens_read_back.Goals as goal

pub returns-clause-words : goal.returns-clause-words
returns-clause-words c = front_of-word

pub returns-clause-digits : goal.returns-clause-digits
returns-clause-digits c = front_of-digits

pub returns-clause-fronts : goal.returns-clause-fronts
returns-clause-fronts c = lexed-front
