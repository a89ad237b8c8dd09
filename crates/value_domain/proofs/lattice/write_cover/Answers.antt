use Rattle.value_domain.proofs.RangeLaws.{range_value}
use Rattle.value_domain.proofs.lattice.write_cover.Goals as goal

pub returns-then-span_len-most_words-clause-value : goal.returns-then-span_len-most_words-clause-value
returns-then-span_len-most_words-clause-value c = rw c.write_cover_as_span.ensures (range_value c.args.b.now c.args.first c.args.last c.args.step c.most_words-most_words.ensures.limits c.requires.step c.requires.some c.ranges.last.fits)

pub returns-else-span_len-most_words-clause-value : goal.returns-else-span_len-most_words-clause-value
returns-else-span_len-most_words-clause-value c = rw c.write_cover_as_set.ensures (range_value c.args.b.now c.args.first c.args.last c.args.step c.most_words-most_words.ensures.limits c.requires.step c.requires.some c.ranges.last.fits)
