use Rattle.std.proofs.lemmas.Result.{err_from_is_err_and}
use Rattle.tc_object.specs.Grammar.{next_reloc_at}
use Rattle.tcd_base.proofs.ManyLaws.{many_more, many_fail, many_end}
use Rattle.tc_object.proofs.reloc_reader.read_relocs.Goals as goal

pub returns-in_err-reloc-clause-err : goal.returns-in_err-reloc-clause-err
returns-in_err-reloc-clause-err c =
    let fault = many_fail (next_reloc_at c.args.sections.now c.args.symbols) c.args.count c.loop-i._i c.loop-i.relocs.items c.args.c.now c.loop-i.c _ c.loop-i-test.true c.loop-i.invariant.read
    (rw c.deref.ensures.value at c.in_err-reloc.ensures.read) in
    let p = err_from_is_err_and c.from_residual-in_err-reloc.result c.from_residual-in_err-reloc.ensures.1 in
    rw (p.1, p.2) fault

pub loop-i-preserved : goal.loop-i-preserved
loop-i-preserved c = record {
  read =
      rw c.in_ok-push.ensures.items
      (many_more (next_reloc_at c.args.sections.now c.args.symbols) c.args.count c.loop-i._i c.loop-i.relocs.items c.args.c.now c.loop-i.c _ _ c.loop-i-test.true c.loop-i.invariant.read
      (rw c.deref.ensures.value at c.in_ok-reloc.ensures.read));
}

pub returns-clause-ok : goal.returns-clause-ok
returns-clause-ok c = many_end (next_reloc_at c.args.sections.now c.args.symbols) c.args.count c.loop-i._i c.loop-i.relocs.items c.args.c.now c.loop-i.c c.loop-i-test.false c.loop-i.invariant.read
