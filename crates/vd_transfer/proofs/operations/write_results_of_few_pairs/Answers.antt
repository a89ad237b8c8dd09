use Rattle.std.proofs.Common.{◌∙◌, ap, ◌<◌, ◌^◌}
use Rattle.std.proofs.lemmas.List.{take_all}
use Rattle.value_domain.specs.Values.{cover}
use Rattle.value_domain.proofs.RangeLaws.{one_value, cover-one}
use Rattle.vd_transfer.proofs.OpLaws.{pairs_more, pairs_first, pairs-none}
use Rattle.vd_transfer.proofs.operations.write_results_of_few_pairs.Goals as goal

pub loop-x-init : goal.loop-x-init
loop-x-init c =
    let small : c.alu.result < 2 ^ 32 = c.alu.type_inv in
    rw (c.write_constant.ensures.word, ← c.alu.ensures)
    (record {
      cover = cover-one c.args.b.now c.alu.result c.most_words-most_words.ensures.limits small ∙ ap (cover c.args.b.now) (pairs-none c.args.op c.alu.result c.args.ys.now);
      value = one_value c.args.b.now c.alu.result c.most_words-most_words.ensures.limits small;
    })

pub loop-x-preserved : goal.loop-x-preserved
loop-x-preserved c = record {
  cover = c.join_results_of_word.ensures.cover ∙ pairs_more c.args.b.now c.loop-x.out c.args.op _ c.loop-x.x-index c.args.xs.now c.args.ys.now c.loop-x-test.true c.loop-x.invariant.cover;
  value = c.join_results_of_word.ensures.value;
}

pub returns-clause-cover : goal.returns-clause-cover
returns-clause-cover c =
    rw (take_all c.loop-x.x-index c.args.xs.now c.loop-x-test.false) at c.loop-x.invariant.cover
    ∙ pairs_first c.args.b.now c.args.op c.args.xs.now c.args.ys.now c.requires.left c.requires.right
