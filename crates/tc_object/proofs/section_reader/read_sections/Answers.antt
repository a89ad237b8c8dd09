use Rattle.std.proofs.lemmas.Result.{err_from_is_err_and}
use Rattle.tc_object.specs.Grammar.{new_section_at}
use Rattle.tcd_base.proofs.ManyLaws.{many_more, many_fail, many_end}
use Rattle.tc_object.proofs.section_reader.read_sections.Goals as goal

pub returns-in_err-section-clause-err : goal.returns-in_err-section-clause-err
returns-in_err-section-clause-err c =
    let fault = many_fail new_section_at c.args.count c.loop-i._i c.loop-i.sections.items c.args.c.now c.loop-i.c _ c.loop-i-test.true c.loop-i.invariant.read
    (rw c.deref.ensures.value at c.in_err-section.ensures.read) in
    let p = err_from_is_err_and c.from_residual-in_err-section.result c.from_residual-in_err-section.ensures.1 in
    rw (p.1, p.2) fault

pub loop-i-preserved : goal.loop-i-preserved
loop-i-preserved c = record {
  read =
      rw c.in_ok-push.ensures.items
      (many_more new_section_at c.args.count c.loop-i._i c.loop-i.sections.items c.args.c.now c.loop-i.c _ _ c.loop-i-test.true c.loop-i.invariant.read
      (rw c.deref.ensures.value at c.in_ok-section.ensures.read));
}

pub returns-clause-ok : goal.returns-clause-ok
returns-clause-ok c = many_end new_section_at c.args.count c.loop-i._i c.loop-i.sections.items c.args.c.now c.loop-i.c c.loop-i-test.false c.loop-i.invariant.read
