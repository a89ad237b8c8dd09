use Rattle.std.proofs.Common.{◌-◌, arith, sym, ◌∙◌}
use Rattle.tc_mem.proofs.Stored.{bytes_with_all, bytes_with_more}
use Rattle.tc_mem.proofs.page.write_page_words.Goals as goal

pub loop-i-init : goal.loop-i-init
loop-i-init c = (omega arith, sym (bytes_with_all c.args.bytes.now _ c.args.words.now 16 (omega arith)))

pub loop-i-preserved : goal.loop-i-preserved
loop-i-preserved c = (
  omega arith,
  c.write_page_word.ensures ∙ bytes_with_more c.args.bytes.now c.loop-i.bytes c.args.offset c.args.words.now c.loop-i.i (c.loop-i.i - 1) (omega arith) (omega arith) c.loop-i.invariant.1,
)
