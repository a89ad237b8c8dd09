use Rattle.std.proofs.Common.{◌∙◌, arith}
use Rattle.std.proofs.lemmas.Result.{err_from_is_err_and}
use Rattle.depth_cert.specs.Grammar.{flag_at}
use Rattle.tcd_base.proofs.ManyLaws.{many_more, many_fail, many_end}
use Rattle.depth_cert.proofs.point_reader.read_flags.Goals as goal

pub returns-in_err-flag-clause-err : goal.returns-in_err-flag-clause-err
returns-in_err-flag-clause-err c =
    let fault = many_fail (λ before. flag_at) c.args.count c.loop-i._i c.loop-i.flags.items c.args.c.now c.loop-i.c _ c.loop-i-test.true c.loop-i.invariant.read c.in_err-flag.ensures.read in
    let p = err_from_is_err_and c.from_residual.result c.from_residual.ensures.1 in
    rw (p.1, p.2) fault

pub loop-i-preserved : goal.loop-i-preserved
loop-i-preserved c = record {
  read = rw c.push.ensures.items (many_more (λ before. flag_at) c.args.count c.loop-i._i c.loop-i.flags.items c.args.c.now c.loop-i.c _ _ c.loop-i-test.true c.loop-i.invariant.read c.in_ok-flag.ensures.read);
  bytes = c.read_flag.ensures.bytes ∙ c.loop-i.invariant.bytes;
  count = omega (arith, c.push.ensures.len, c.loop-i.invariant.count);
}

pub returns-clause-ok : goal.returns-clause-ok
returns-clause-ok c = many_end (λ before. flag_at) c.args.count c.loop-i._i c.loop-i.flags.items c.args.c.now c.loop-i.c c.loop-i-test.false c.loop-i.invariant.read
