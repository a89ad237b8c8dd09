use Rattle.std.proofs.Common.{◌∙◌, arith}
use Rattle.value_domain.proofs.CoverLaws.{rising_multiples, unit_some}
use Rattle.value_domain.proofs.RangeLaws.{fill_none, fill_more, unit_shift, range_all, value-rising}
use Rattle.value_domain.proofs.lattice.write_cover_as_set.Goals as goal

pub loop-k-init : goal.loop-k-init
loop-k-init c = fill_none c.new-words.result.items _ _ c.new-words.ensures

pub loop-k-preserved : goal.loop-k-preserved
loop-k-preserved c = rw c.push.ensures.items (fill_more c.loop-k.words.items c.loop-k.k _ _ c.loop-k.auto.k c.loop-k.invariant.0 c.loop-k.invariant.1)

pub write_value_of_words-requires-clause-rising : goal.write_value_of_words-requires-clause-rising
write_value_of_words-requires-clause-rising c =
    rw (c.as_slice.ensures.value, c.loop-k.invariant.0) (rising_multiples _ _ _ (omega (arith, unit_shift c.args.step c.requires.step, unit_some c.args.step)))

pub returns : goal.returns
returns c =
    let u = unit_shift c.args.step c.requires.step in
    let some = rw (← u, ← c.from.ensures, ← c.from-2.ensures) at c.requires.some in
    let is = c.as_slice.ensures.value ∙ c.loop-k.invariant.0 in
    range_all c.args.b.now c.write_value_of_words.new.out c.loop-k.k c.args.first c.from.result c.args.last c.from-2.result c.args.step _ c.from.ensures c.from-2.ensures u
    (omega (arith, c.loop-k.auto.k-end (omega arith)))
    (c.write_value_of_words.ensures
    ∙ rw is (value-rising c.args.b.now _ (rising_multiples _ _ _ (omega (arith, unit_shift c.args.step c.requires.step, unit_some c.args.step)))))
