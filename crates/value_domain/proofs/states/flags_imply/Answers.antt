use Rattle.std.proofs.Common.{◌≡◌, true, false, arith}
use Rattle.value_domain.proofs.RegLaws.{implied_length, implied_at}
use Rattle.value_domain.proofs.states.flags_imply.Goals as goal

pub returns-then-flags-others : goal.returns-then-flags-others
returns-then-flags-others c =
    ((λ t. absurd (let g : false ≡ true = t in cc)), (λ h. absurd (c.if-flags-others.true (implied_length c.args.flags.now c.args.others.now h))))

pub loop-i-preserved : goal.loop-i-preserved
loop-i-preserved c =
    let both = implied_at c.args.flags.now c.args.others.now c.loop-i.i (omega arith) (omega arith) in
    ((λ rest. c.loop-i.invariant.0 (both.1 (c.flag_implies.ensures.0 c.if-not-flag_implies.false) rest)), (λ h. (both.0 (c.loop-i.invariant.1 h)).1))
