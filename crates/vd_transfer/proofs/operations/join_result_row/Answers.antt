use Rattle.std.proofs.Common.{◌≡◌, ◌∙◌, ◌+◌, ◌*◌, ◌/◌, arith, length}
use Rattle.std.proofs.lemmas.List.{take_all}
use Rattle.value_domain.proofs.RangeLaws.{words_none, words_more}
use Rattle.vd_transfer.proofs.OpLaws.{words_next, same_next, met_eight, met_kept}
use Rattle.vd_transfer.proofs.operations.join_result_row.Goals as goal
use Rattle.vd_transfer.proofs.operations.join_result_row.Goals.{then-missed-ne0, else-missed-ne0}

pub loop-e-init : goal.loop-e-init
loop-e-init c = record {
  cover = words_none c.args.b.now c.args.v.now c.args.words.now c.requires.value;
  value = c.requires.value;
  met = c.requires.met;
  eights = c.requires.eights;
}

pub loop-j-init : goal.loop-j-init
loop-j-init c = λ e n lt. absurd (omega arith)

pub loop-j-preserved : goal.loop-j-preserved
loop-j-preserved c = same_next c.loop-e.eights c.args.words.now (c.recent_result_slot.result / 2 * 8) (8 * c.loop-e.e) c.loop-j.j c.loop-j.missed c.loop-j.invariant

pub loop-e-preserved : goal.loop-e-preserved
loop-e-preserved c =
    let next : 8 * (c.loop-e.e + 1) ≡ 8 * c.loop-e.e + 8 = omega arith in
    elim c.if-missed-ne0.branch [
      | then-missed-ne0 w ↦
          rw (w.v-is, w.met-is, w.eights-is, next)
          (record {
            cover =
                w.join_eight_results.ensures.cover
                ∙ words_next c.args.b.now c.args.v.now c.loop-e.v c.args.words.now (8 * c.loop-e.e) (8 * c.loop-e.e + 8) _ c.requires.value.well (omega arith) c.loop-e.invariant.cover;
            value = w.join_eight_results.ensures.value;
            met = w.join_eight_results.ensures.met;
            eights = w.join_eight_results.ensures.eights;
          })
      | else-missed-ne0 w ↦
          let long : length c.loop-e.eights ≡ 2048 = rw w.eights-is at c.if-missed-ne0.array_long2 in
          let j8 : c.loop-j.j ≡ 8 = omega (arith, c.loop-j-test.false, c.loop-j.auto.j-end) in
          rw (w.v-is, w.met-is, w.eights-is, next)
          (record {
            cover =
                met_eight c.args.b.now c.args.v.now c.loop-e.v c.loop-e.eights c.args.words.now (c.recent_result_slot.result / 2 * 8) (8 * c.loop-e.e) c.requires.value.well c.loop-e.invariant.value c.loop-e.invariant.eights
                (omega (arith, long, c.recent_result_slot.ensures)) (rw j8 at (c.loop-j.invariant w.if-missed-ne0.false)) c.loop-e.invariant.cover;
            value = c.loop-e.invariant.value;
            met = c.loop-e.invariant.met;
            eights = c.loop-e.invariant.eights;
          })
    ]

pub loop-i-init : goal.loop-i-init
loop-i-init c =
    let e : c.loop-e.e ≡ length c.args.words.now / 8 = omega (arith, c.loop-e-test.false, c.loop-e.auto.e-end) in
    let at : 8 * c.loop-e.e ≡ length c.args.words.now / 8 * 8 = omega (arith, e) in
    record {
      within = omega arith;
      cover = rw at at c.loop-e.invariant.cover;
      value = c.loop-e.invariant.value;
      met = c.loop-e.invariant.met;
      eights = c.loop-e.invariant.eights;
    }

pub loop-i-preserved : goal.loop-i-preserved
loop-i-preserved c = record {
  within = omega arith;
  cover =
      c.join_result.ensures.cover
      ∙ words_more c.args.b.now c.args.v.now c.loop-i.v c.args.words.now c.loop-i.i c.requires.value.well c.loop-i-test.true c.loop-i.invariant.cover;
  value = c.join_result.ensures.value;
  met = c.join_result.ensures.met;
  eights = rw c.join_result.ensures.cover (met_kept c.args.b.now c.loop-i.v c.loop-e.eights _ c.loop-i.invariant.value.well c.loop-i.invariant.eights);
}

pub returns-clause-cover : goal.returns-clause-cover
returns-clause-cover c = rw (take_all c.loop-i.i c.args.words.now c.loop-i-test.false) at c.loop-i.invariant.cover
