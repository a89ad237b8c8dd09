use Rattle.std.proofs.Common.{◌∙◌, arith}
use Rattle.std.proofs.lemmas.List.{take_all}
use Rattle.value_domain.specs.State.{joined_locals}
use Rattle.value_domain.proofs.RegLaws.{locals_more, length-and}
use Rattle.value_domain.proofs.states.join_locals.Goals as goal

pub loop-i-preserved : goal.loop-i-preserved
loop-i-preserved c = c.push.ensures.items ∙ rw c.are_both_flags_set-both.ensures (locals_more c.args.s.now c.args.t.now c.loop-i.out.items c.loop-i.i c.loop-i-test.true c.requires.same c.loop-i.invariant)

pub returns : goal.returns
returns c = c.loop-i.invariant ∙ take_all c.loop-i.i (joined_locals c.args.s.now c.args.t.now) (omega (arith, length-and c.args.s.now c.args.t.now c.requires.same))
