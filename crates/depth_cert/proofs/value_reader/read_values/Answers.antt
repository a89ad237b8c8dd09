use Rattle.std.proofs.Common.{◌∙◌, arith, length, take, refl}
use Rattle.std.proofs.lemmas.Result.{err_from_is_err_and}
use Rattle.std.proofs.lemmas.List.{take_more_set, take_all}
use Rattle.depth_cert.specs.Grammar.{value_at, values_at}
use Rattle.tcd_base.proofs.ManyLaws.{many_more, many_fail, many_end}
use Rattle.depth_cert.proofs.value_reader.read_values.Goals as goal

pub returns-in_err-read_value-clause-err : goal.returns-in_err-read_value-clause-err
unfolding values_at
returns-in_err-read_value-clause-err c =
    let fault = many_fail (λ before. value_at c.args.version) (length c.args.out.now) c.loop-i.i (take c.loop-i.i c.loop-i.out) c.args.c.now c.loop-i.c _ c.loop-i-test.true c.loop-i.invariant.read c.in_err-read_value.ensures.err in
    let p = err_from_is_err_and c.from_residual.result c.from_residual.ensures.1 in
    rw (p.1, p.2) fault

pub loop-i-preserved : goal.loop-i-preserved
loop-i-preserved c = record {
  read =
      rw (take_more_set c.loop-i.out c.loop-i.i c.read_value.new.out (omega (arith, c.loop-i.auto.out)))
      (many_more (λ before. value_at c.args.version) (length c.args.out.now) c.loop-i.i (take c.loop-i.i c.loop-i.out) c.args.c.now c.loop-i.c _ _ c.loop-i-test.true c.loop-i.invariant.read c.in_ok-read_value.ensures.ok);
  bytes = c.read_value.ensures.bytes ∙ c.loop-i.invariant.bytes;
}

pub returns-clause-ok : goal.returns-clause-ok
unfolding values_at
returns-clause-ok c =
    let all = many_end (λ before. value_at c.args.version) (length c.args.out.now) c.loop-i.i (take c.loop-i.i c.loop-i.out) c.args.c.now c.loop-i.c c.loop-i-test.false c.loop-i.invariant.read in
    all ∙ rw (take_all c.loop-i.i c.loop-i.out (omega (arith, c.loop-i.auto.out))) refl
