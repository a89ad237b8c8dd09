use Rattle.std.proofs.Common.{ap, ◌∙◌}
use Rattle.csa_chain.specs.MemoryBytes.{Memory, with_word}
use Rattle.tc_machine.proofs.WholeAccesses.{put_whole, put_none}
use Rattle.tc_machine.proofs.contexts.write_area_word.Goals as goal

pub returns-then-set_word : goal.returns-then-set_word
returns-then-set_word c = put_whole c.args.mem.now c.set_word.new.self c.args.addr c.args.word c.set_word.result c.set_word.ensures.mapped c.set_word.ensures.written c.if-set_word.true

pub returns : goal.returns
returns c =
    c.write_area_word_bytes.ensures
    ∙ ap (λ (m : Memory). with_word m c.args.addr c.args.word) (put_none c.args.mem.now c.set_word.new.self c.args.addr c.args.word c.set_word.result c.set_word.ensures.mapped c.set_word.ensures.written c.if-set_word.false)
