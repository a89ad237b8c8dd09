use Rattle.value_domain.proofs.RangeLaws.{one_value}
use Rattle.cfg_recover.proofs.entry_changes.entry_constant.Goals as goal

pub returns-clause-value : goal.returns-clause-value
returns-clause-value c = rw c.one.ensures (one_value c.args.b.now c.args.x c.most_words-most_words.ensures.limits c.ranges.x.fits)
