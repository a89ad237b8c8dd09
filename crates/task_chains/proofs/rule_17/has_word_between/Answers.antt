use Rattle.std.proofs.Common.{◌≡◌, false, true, refl, sym, ◌∙◌, below_more}
use Rattle.task_chains.proofs.MissLaws.{word_here, no_word}
use Rattle.task_chains.proofs.rule_17.has_word_between.Goals as goal

pub returns-then-is_between : goal.returns-then-is_between
returns-then-is_between c =
    let b = c.is_between.ensures.0 c.if-is_between.true in
    (λ t. word_here c.args.words.now c.loop-x.x-index c.args.low c.args.high c.loop-x-test.true b.0 b.1, λ h. refl)

pub loop-x-preserved : goal.loop-x-preserved
loop-x-preserved c =
    below_more _ _ c.loop-x.invariant
    (λ above below. let f : true ≡ false = sym (c.is_between.ensures.1 (above, below)) ∙ c.if-is_between.false in absurd (let g : true ≡ false = f in cc))

pub returns : goal.returns
returns c = (
  λ t. absurd (let f : false ≡ true = t in cc),
  λ h. absurd (no_word c.args.words.now c.loop-x.x-index c.args.low c.args.high c.loop-x-test.false c.loop-x.invariant h),
)
