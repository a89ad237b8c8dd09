use Rattle.std.proofs.Common.{◌∙◌, ap, ◌<◌, ◌^◌, arith}
use Rattle.std.proofs.lemmas.List.{take_all}
use Rattle.value_domain.specs.Values.{cover}
use Rattle.value_domain.proofs.RangeLaws.{one_value, cover-one}
use Rattle.vd_transfer.proofs.OpLaws.{pairs_more, pairs_rest, pairs_first, pairs-none, met_one}
use Rattle.vd_transfer.proofs.operations.write_results_of_many_pairs.Goals as goal

pub loop-i-init : goal.loop-i-init
loop-i-init c =
    let small : c.alu-first.result < 2 ^ 32 = c.alu-first.type_inv in
    rw (c.write_constant.ensures.word, ← c.alu-first.ensures)
    (record {
      within = omega arith;
      cover = cover-one c.args.b.now c.alu-first.result c.most_words-most_words.ensures.limits small ∙ ap (cover c.args.b.now) (pairs-none c.args.op c.alu-first.result c.args.ys.now);
      value = one_value c.args.b.now c.alu-first.result c.most_words-most_words.ensures.limits small;
      met = met_one 512 c.alu-first.result;
      eights = met_one 2048 c.alu-first.result;
    })

pub loop-i-preserved : goal.loop-i-preserved
loop-i-preserved c = record {
  within = omega arith;
  cover =
      rw c.fill_result_row.ensures at c.join_result_row.ensures.cover
      ∙ pairs_more c.args.b.now c.loop-i.out c.args.op _ c.loop-i.i c.args.xs.now c.args.ys.now c.loop-i-test.true c.loop-i.invariant.cover;
  value = c.join_result_row.ensures.value;
  met = c.join_result_row.ensures.met;
  eights = c.join_result_row.ensures.eights;
}

pub returns-else-i-xs-clause-cover : goal.returns-else-i-xs-clause-cover
returns-else-i-xs-clause-cover c =
    rw (take_all c.loop-i.i c.args.xs.now c.if-i-xs.false) at c.loop-i.invariant.cover
    ∙ pairs_first c.args.b.now c.args.op c.args.xs.now c.args.ys.now c.requires.left c.requires.right

pub returns-then-i-xs-clause-cover : goal.returns-then-i-xs-clause-cover
returns-then-i-xs-clause-cover c =
    c.join_results_into_span.ensures.cover ∙ pairs_rest c.args.b.now c.loop-i.out c.args.op _ c.loop-i.i c.args.xs.now c.args.ys.now c.loop-i.invariant.cover
    ∙ pairs_first c.args.b.now c.args.op c.args.xs.now c.args.ys.now c.requires.left c.requires.right
