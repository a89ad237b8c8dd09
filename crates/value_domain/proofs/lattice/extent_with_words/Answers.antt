use Rattle.value_domain.proofs.PutLaws.{extent_none, extent_next}
use Rattle.value_domain.proofs.lattice.extent_with_words.Goals as goal

pub loop-x-init : goal.loop-x-init
loop-x-init c = λ xs e. extent_none xs e

pub loop-x-preserved : goal.loop-x-preserved
loop-x-preserved c = λ xs e. rw (c.min-least.ensures, c.max-greatest.ensures) (extent_next c.loop-x.least c.loop-x.greatest c.args.e.now.step xs c.args.words.now c.loop-x.x-index c.loop-x.bits c.loop-x-test.true (c.loop-x.invariant xs e))
