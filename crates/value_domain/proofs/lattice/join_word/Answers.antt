use Rattle.value_domain.proofs.RangeLaws.{more_value}
use Rattle.value_domain.proofs.lattice.join_word.Goals as goal

pub returns-clause-value : goal.returns-clause-value
returns-clause-value c = rw c.insert_or_widen.ensures (more_value c.args.b.now c.args.v.now c.args.x c.most_words-most_words.ensures.limits c.requires c.ranges.x.fits)
