use Rattle.std.proofs.Common.{◌≡◌, ◌∙◌, ◌-◌, sym, arith, ap}
use Rattle.value_domain.specs.Sets.{sorted_set_insert}
use Rattle.value_domain.proofs.Loops.{put-insert, words_put, above_absent}
use Rattle.value_domain.proofs.values.Words.insert.Goals as goal

placed : (c : goal.After-insert) → c.insert.new.self.items ≡ sorted_set_insert c.args.x c.args.self.now
placed c =
    let after = rw c.as_slice.ensures.value at c.count_words_below-at.ensures.after in
    c.insert.ensures.items
    ∙ sym (put-insert c.args.x c.self.inside.words.items c.count_words_below-at.result c.self.invariant.rising
    (rw c.as_slice.ensures.value at c.count_words_below-at.ensures.within)
    (λ h. let before = rw c.as_slice.ensures.value at c.count_words_below-at.ensures.before in before (c.count_words_below-at.result - 1) (omega arith))
    (above_absent c.args.x c.self.inside.words.items c.count_words_below-at.result (rw (← c.self.view_is) at c.requires.absent) (after c.count_words_below-at.result (omega arith))))
    ∙ ap (sorted_set_insert c.args.x) c.self.view_is

pub invariant_of-self : goal.invariant_of-self
invariant_of-self c = rw (placed c) (words_put c.args.x c.args.self.now (rw c.self.view_is at c.self.invariant) c.requires.room c.ranges.x.fits)

pub returns : goal.returns
returns c = placed c
