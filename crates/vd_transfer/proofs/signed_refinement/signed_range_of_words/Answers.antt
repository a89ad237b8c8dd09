use Rattle.value_domain.proofs.Loops.{among_get}
use Rattle.std.proofs.Common.{refl, get_or}
use Rattle.vd_transfer.proofs.SignLaws.{ends_more}
use Rattle.vd_transfer.proofs.signed_refinement.signed_range_of_words.Goals as goal

pub loop-x-preserved : goal.loop-x-preserved
loop-x-preserved c =
    ends_more c.args.words.now c.loop-x.x-index (get_or c.args.words.now c.loop-x.x-index 0) c.loop-x.low c.loop-x.high c.signed_min-low.result c.signed_max-high.result c.loop-x-test.true refl
    (among_get c.args.words.now c.loop-x.x-index c.loop-x-test.true) c.loop-x.invariant.0 c.loop-x.invariant.1 c.loop-x.invariant.2
    c.signed_min-low.ensures.either c.signed_min-low.ensures.below_x c.signed_min-low.ensures.below_low c.signed_max-high.ensures.either c.signed_max-high.ensures.above_x c.signed_max-high.ensures.above_high
