use Rattle.value_domain.proofs.RangeLaws.{one_value}
use Rattle.vd_transfer.proofs.operands.constant_value.Goals as goal

pub returns-clause-value : goal.returns-clause-value
returns-clause-value c = rw c.one.ensures (one_value c.args.b.now c.args.w c.most_words-most_words.ensures.limits c.ranges.w.fits)
