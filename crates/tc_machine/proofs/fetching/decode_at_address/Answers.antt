use Rattle.std.proofs.Common.{ap, ◌∙◌, arith}
use Rattle.tc_encode.specs.Decoding.{decoded_of}
use Rattle.tc_machine.proofs.WholeAccesses.{mapped_word}
use Rattle.tc_machine.proofs.fetching.decode_at_address.Goals as goal

pub returns-in-Some-clause-decoded : goal.returns-in-Some-clause-decoded
returns-in-Some-clause-decoded c =
    c.decode_fetched_bytes.ensures.decoded
    ∙ ap decoded_of (c.fetched_word_bytes.ensures ∙ mapped_word c.args.mem.now c.args.addr c.in-Some.word c.in-Some.ensures.bytes (omega arith) c.in-Some.ensures.word)
