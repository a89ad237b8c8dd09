use Rattle.std.proofs.Common.{arith}
use Rattle.tc_machine.proofs.WholeAccesses.{mapped_word}
use Rattle.tc_script.proofs.KnownLaws.{named, known_there}
use Rattle.tc_script.proofs.known_words.KnownWords.find_or_decode_at_pc.Goals as goal

pub returns-then-eq-clause-stands : goal.returns-then-eq-clause-stands
returns-then-eq-clause-stands c =
    known_there c.args.self.now.words c.known_word_index-place.result _ c.args.m.now.mem c.args.m.now.pc c.in-Some.word c.requires (omega arith) (named _ _ c.if-eq.ensures) c.in-Some.ensures.bytes (omega arith) c.in-Some.ensures.word

pub decode_into-requires-2-clause-word : goal.decode_into-requires-2-clause-word
decode_into-requires-2-clause-word c = mapped_word c.args.m.now.mem c.args.m.now.pc c.in-Some.word c.in-Some.ensures.bytes (omega arith) c.in-Some.ensures.word
