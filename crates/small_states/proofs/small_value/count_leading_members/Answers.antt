use Rattle.std.proofs.Common.{arith}
use Rattle.small_states.proofs.HeldWords.{walk_both, walk_own, walk_past}
use Rattle.small_states.proofs.small_value.count_leading_members.Goals as goal
use Rattle.small_states.proofs.small_value.count_leading_members.Goals.{then-own-k-2, else-own-k-2}

pub loop-n-init : goal.loop-n-init
loop-n-init c = record { end = omega arith; within = omega arith; held = λ j h. absurd (omega arith); below = λ h j l. absurd (omega arith) }

pub returns-then-own-k-clause-missing : goal.returns-then-own-k-clause-missing
returns-then-own-k-clause-missing c = walk_past c.args.own.now c.args.words.now c.loop-n.n c.loop-n.k c.requires.own (λ lt. c.if-own-k.true) c.loop-n.invariant

pub loop-n-preserved : goal.loop-n-preserved
loop-n-preserved c =
    elim c.if-own-k-2.branch [
      | then-own-k-2 w ↦ rw w.n-is (walk_both c.args.own.now c.args.words.now c.loop-n.n c.loop-n.k c.requires.words c.loop-n-test.true c.if-k-own.true w.if-own-k-2.true c.loop-n.invariant)
      | else-own-k-2 w ↦ rw w.n-is (walk_own c.args.own.now c.args.words.now c.loop-n.n c.loop-n.k c.if-k-own.true c.if-own-k.false w.if-own-k-2.false c.loop-n.invariant)
    ]

pub returns-else-k-own-clause-missing : goal.returns-else-k-own-clause-missing
returns-else-k-own-clause-missing c =
    walk_past c.args.own.now c.args.words.now c.loop-n.n c.loop-n.k c.requires.own (λ lt. let past = c.if-k-own.false in absurd (omega (arith, lt, past))) c.loop-n.invariant
