use Rattle.value_domain.proofs.RangeLaws.{one_value}
use Rattle.vd_transfer.proofs.operands.write_constant.Goals as goal

pub returns-clause-value : goal.returns-clause-value
returns-clause-value c = rw c.set_word.ensures (one_value c.args.b.now c.args.x c.most_words-most_words.ensures.limits c.ranges.x.fits)
