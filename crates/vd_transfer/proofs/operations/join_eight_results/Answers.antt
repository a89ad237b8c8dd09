use Rattle.std.proofs.Common.{◌∙◌, ◌+◌, arith}
use Rattle.std.proofs.lemmas.List.{take_all}
use Rattle.value_domain.proofs.RangeLaws.{words_none, words_more}
use Rattle.vd_transfer.proofs.OpLaws.{met_more}
use Rattle.vd_transfer.proofs.operations.join_eight_results.Goals as goal

pub loop-j-init : goal.loop-j-init
loop-j-init c = record {
  cover = words_none c.args.b.now c.args.v.now c.args.words.now c.requires.value;
  value = c.requires.value;
  met = c.requires.met;
  eights = c.requires.eights;
}

pub loop-j-preserved : goal.loop-j-preserved
loop-j-preserved c = record {
  cover = c.join_result.ensures.cover ∙ words_more c.args.b.now c.args.v.now c.loop-j.v c.args.words.now c.loop-j.j c.requires.value.well (omega (arith, c.loop-j-test.true, c.requires.eight)) c.loop-j.invariant.cover;
  value = c.join_result.ensures.value;
  met = c.join_result.ensures.met;
  eights = rw c.join_result.ensures.cover (met_more c.args.b.now c.loop-j.v c.loop-j.eights (c.args.k + c.loop-j.j) _ c.loop-j.invariant.value.well (omega arith) c.loop-j.invariant.eights);
}

pub returns-clause-cover : goal.returns-clause-cover
returns-clause-cover c = rw (take_all c.loop-j.j c.args.words.now (omega (arith, c.loop-j-test.false, c.requires.eight))) at c.loop-j.invariant.cover
