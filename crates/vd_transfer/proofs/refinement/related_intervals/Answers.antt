use Rattle.std.proofs.Common.{◌≤◌, ◌<◌, inl, inr, arith}
use Rattle.vd_transfer.specs.Relations.{MayBeRelated}
use Rattle.vd_transfer.proofs.Meets.{with_none}
use Rattle.vd_transfer.proofs.refinement.related_intervals.Goals as goal

pub returns-in-Less : goal.returns-in-Less
unfolding MayBeRelated
returns-in-Less c = λ x h. rw c.in-Less.is (with_none (x < c.args.high) c.words_below.result x (c.words_below.ensures x))

pub returns-in-AtMost : goal.returns-in-AtMost
unfolding MayBeRelated
returns-in-AtMost c = λ x h. rw c.in-AtMost.is (with_none (x ≤ c.args.high) _ x ((λ i. i.1), (λ l. (omega arith, l))))

pub returns-in-AtLeast : goal.returns-in-AtLeast
unfolding MayBeRelated
returns-in-AtLeast c = λ x h. rw c.in-AtLeast.is (with_none (c.args.low ≤ x) c.words_from.result x (c.words_from.ensures x h))

pub returns-in-More : goal.returns-in-More
unfolding MayBeRelated
returns-in-More c = λ x h. rw c.in-More.is (with_none (c.args.low < x) c.words_above.result x (c.words_above.ensures x h))

pub returns-in-Same : goal.returns-in-Same
unfolding MayBeRelated
returns-in-Same c = λ x h. rw c.in-Same.is (with_none (c.args.low ≤ x) c.words_from-in-Same.result x (c.words_from-in-Same.ensures x h))

pub returns-in-Other : goal.returns-in-Other
unfolding MayBeRelated
returns-in-Other c = λ x h.
    let a = c.words_below-in-Other.ensures x in
    let b = c.words_above-in-Other.ensures x h in
    rw c.in-Other.is
    ((λ s. elim s [ inl i ↦ inl (a.0 i) | inr i ↦ inr (b.0 i) ]), (λ r. elim r [ inl l ↦ inl (a.1 l) | inr g ↦ inr (b.1 g) ]))
