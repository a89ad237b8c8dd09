use Rattle.std.proofs.Common.{◌∙◌, ◌++◌, take}
use Rattle.std.proofs.lemmas.List.{take_all}
use Rattle.value_domain.specs.Values.{members}
use Rattle.value_domain.proofs.PutLaws.{widened}
use Rattle.vd_transfer.specs.Operations.{results_of_pairs}
use Rattle.vd_transfer.proofs.OpLaws.{extent_no_pairs, extent_pairs, map_length}
use Rattle.vd_transfer.proofs.ValueLaws.{pairs_value}
use Rattle.vd_transfer.proofs.operations.join_results_into_span.Goals as goal

pub loop-x-init : goal.loop-x-init
loop-x-init c = record { extent = extent_no_pairs (members c.args.v.now) c.args.op c.args.ys.now c.extent_of-e.ensures; room = c.requires.room }

pub loop-x-preserved : goal.loop-x-preserved
loop-x-preserved c = record {
  extent =
      extent_pairs (members c.args.v.now) c.args.op c.loop-x.x-index c.args.xs.now c.args.ys.now c.loop-x-test.true
      (rw c.fill_result_row.ensures at (c.extent_with_words-e.ensures (members c.args.v.now ++ results_of_pairs c.args.op (take c.loop-x.x-index c.args.xs.now) c.args.ys.now) c.loop-x.invariant.extent));
  room = rw c.fill_result_row.ensures (map_length c.args.op _ c.args.ys.now);
}

pub returns-clause-cover : goal.returns-clause-cover
returns-clause-cover c =
    c.write_span.ensures
    ∙ widened c.args.b.now c.args.v.now (results_of_pairs c.args.op c.args.xs.now c.args.ys.now) c.requires.value c.requires.span
    (rw (take_all c.loop-x.x-index c.args.xs.now c.loop-x-test.false) at c.loop-x.invariant.extent)

pub returns-clause-value : goal.returns-clause-value
returns-clause-value c =
    let extent = rw (take_all c.loop-x.x-index c.args.xs.now c.loop-x-test.false) at c.loop-x.invariant.extent in
    rw (c.write_span.ensures ∙ widened c.args.b.now c.args.v.now (results_of_pairs c.args.op c.args.xs.now c.args.ys.now) c.requires.value c.requires.span extent)
    (pairs_value c.args.b.now c.args.v.now c.args.op c.args.xs.now c.args.ys.now c.most_words-most_words.ensures.limits c.requires.value (λ k. (c.type_inv.xs k).fits) (λ k. (c.type_inv.ys k).fits))
