use Rattle.std.proofs.Common.{◌∙◌, arith, refl}
use Rattle.std.proofs.lemmas.Result.{err_from_is_err_and}
use Rattle.depth_cert.specs.Grammar.{set_word_after, set_at}
use Rattle.tcd_base.proofs.ManyLaws.{many_more, many_fail, many_end}
use Rattle.depth_cert.proofs.ManyLaws.{rising_push}
use Rattle.depth_cert.proofs.value_reader.read_set.Goals as goal

pub returns-in_err-word-clause-err : goal.returns-in_err-word-clause-err
unfolding set_at
returns-in_err-word-clause-err g c =
    let fault = many_fail set_word_after c.args.n c.loop-i._i c.loop-i.words.items c.args.c.now c.loop-i.c _ c.loop-i-test.true c.loop-i.invariant.read (rw c.as_slice.ensures.value at c.in_err-word.ensures.read.read) in
    let p = err_from_is_err_and c.from_residual.result c.from_residual.ensures.1 in
    rw (p.1, p.2, fault) refl

pub loop-i-preserved : goal.loop-i-preserved
loop-i-preserved g c = record {
  read = rw c.push.ensures.items (many_more set_word_after c.args.n c.loop-i._i c.loop-i.words.items c.args.c.now c.loop-i.c _ _ c.loop-i-test.true c.loop-i.invariant.read (rw c.as_slice.ensures.value at c.in_ok-word.ensures.read.read));
  bytes = c.read_set_word.ensures.read.bytes ∙ c.loop-i.invariant.bytes;
  count = omega (arith, c.push.ensures.len, c.loop-i.invariant.count);
  rising = rw c.push.ensures.items (rising_push c.loop-i.words.items _ c.loop-i.invariant.rising (rw c.as_slice.ensures.value at c.in_ok-word.ensures.next));
}

pub returns-clause-ok : goal.returns-clause-ok
unfolding set_at
returns-clause-ok g c =
    let all = many_end set_word_after c.args.n c.loop-i._i c.loop-i.words.items c.args.c.now c.loop-i.c c.loop-i-test.false c.loop-i.invariant.read in
    rw (all, c.overwrite_with_set.ensures, c.as_slice-2.ensures.value) refl
