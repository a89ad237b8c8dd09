use Rattle.std.proofs.Common.{◌∙◌, arith}
use Rattle.store_ranges.specs.Loads.{loaded_words_at}
use Rattle.store_ranges.proofs.LoadLaws.{flat_first, flat_some, cover_more, cover_all}
use Rattle.store_ranges.proofs.loads.write_loads.Goals as goal

pub loop-i-init : goal.loop-i-init
loop-i-init c =
    let one = loaded_words_at c.args.image.now c.args.plan.now c.args.load.size c.args.load.signed in
    rw (← flat_first one c.args.words.now c.requires.some) (c.write_load_at.ensures.loaded, c.write_load_at.ensures.value, c.write_load_at.ensures.some)

pub loop-i-preserved : goal.loop-i-preserved
loop-i-preserved c =
    let one = loaded_words_at c.args.image.now c.args.plan.now c.args.load.size c.args.load.signed in (
      c.join_load_at.ensures.loaded ∙ cover_more c.args.b.now one c.args.words.now c.loop-i.i c.loop-i.out c.loop-i-test.true c.loop-i.invariant.2 c.loop-i.invariant.0,
      c.join_load_at.ensures.value,
      flat_some one c.args.words.now c.loop-i.i c.loop-i-test.true c.loop-i.invariant.2,
    )

pub returns-clause-loaded : goal.returns-clause-loaded
returns-clause-loaded c =
    cover_all c.args.b.now (loaded_words_at c.args.image.now c.args.plan.now c.args.load.size c.args.load.signed) c.args.words.now c.loop-i.i c.loop-i.out (omega (arith, c.loop-i-test.false)) c.loop-i.invariant.0
