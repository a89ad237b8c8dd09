use Rattle.std.proofs.Common.{arith, get_or, refl}
use Rattle.value_domain.specs.Sets.{alignment_log2}
use Rattle.value_domain.proofs.BitLaws.{alignment_log2-or}
use Rattle.value_domain.proofs.Loops.{step_more, step_all}
use Rattle.value_domain.proofs.SetLaws.{step_le, twos_le}
use Rattle.value_domain.proofs.lattice.bitwise_or_of_words.Goals as goal

pub loop-x-init : goal.loop-x-init
unfolding alignment_log2
loop-x-init c = omega (arith, step_le c.args.words.now)

pub loop-x-preserved : goal.loop-x-preserved
loop-x-preserved c =
    let x = get_or c.args.words.now c.loop-x.x-index 0 in
    let more = step_more c.args.words.now c.loop-x.x-index (alignment_log2 c.loop-x.bits) (alignment_log2 x) c.loop-x-test.true c.loop-x.invariant refl in
    omega (arith, more, alignment_log2-or c.loop-x.bits x)

pub returns : goal.returns
returns c = step_all c.args.words.now c.loop-x.x-index (alignment_log2 c.loop-x.bits) c.loop-x-test.false (twos_le c.loop-x.bits) c.loop-x.invariant
