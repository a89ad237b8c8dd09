use Rattle.value_domain.proofs.RangeLaws.{one_value}
use Rattle.value_domain.proofs.MeetLaws.{add_first, add_more}
use Rattle.value_domain.proofs.meets.add_word_to_meet.Goals as goal

pub returns-else-found-clause-more : goal.returns-else-found-clause-more
returns-else-found-clause-more c = λ xs e.
    rw c.set_word.ensures (add_first c.args.b.now c.args.x xs c.most_words-most_words.ensures.limits c.ranges.x.fits (rw c.if-found.false at e))

pub returns-else-found-clause-value : goal.returns-else-found-clause-value
returns-else-found-clause-value c = rw c.set_word.ensures (one_value c.args.b.now c.args.x c.most_words-most_words.ensures.limits c.ranges.x.fits)

pub returns-then-found-clause-more : goal.returns-then-found-clause-more
returns-then-found-clause-more c = λ xs e. rw c.join_word.ensures.cover (add_more c.args.b.now c.args.out.now c.args.x xs (rw c.if-found.true at e))

pub join_word-requires : goal.join_word-requires
join_word-requires c = rw c.if-found.true at c.requires
