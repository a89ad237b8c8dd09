use Rattle.std.proofs.Common.{◌∙◌, sym, ap, subst}
use Rattle.depth_cert.specs.Known.{Known, joined_known}
use Rattle.depth_cert.specs.WellFormed.{IsWellFormedKnown}
use Rattle.small_states.proofs.AboveLaws.{known_above}
use Rattle.small_states.proofs.known.SmallKnown.join_sharing.Goals as goal

pub returns-then-covers_with_same_gaps : goal.returns-then-covers_with_same_gaps
returns-then-covers_with_same_gaps c =
    let b = c.args.b.now in
    let e = c.in_ok-above.ensures in
    sym (known_above b c.args.self.now c.in_ok-above.above c.requires.known (subst (λ (w : Known). IsWellFormedKnown b w) (sym e) c.requires.incoming) (c.covers_with_same_gaps.ensures c.if-covers_with_same_gaps.true))
    ∙ ap (λ (w : Known). joined_known b c.args.self.now w) e
