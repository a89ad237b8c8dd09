use Rattle.std.proofs.Common.{◌∙◌, ap}
use Rattle.std.proofs.lemmas.Result.{err_from_is_err_and}
use Rattle.tcd_base.specs.Place.{Place}
use Rattle.tc_object.specs.Faults.{reloc_fault}
use Rattle.tc_object.proofs.RecordLaws.{reloc_in, whole_reloc, taken, none_told, fault_told}
use Rattle.tc_object.proofs.reloc_reader.read_reloc.Goals as goal

pub returns-in_err-check_reloc : goal.returns-in_err-check_reloc
returns-in_err-check_reloc c =
    let fault = fault_told _ (reloc_fault c.args.sections.now c.args.symbols c.args.before.now) _ c.reloc_in_bytes-reloc.result _ c.place-start.result _ _
    (whole_reloc c.args.sections.now c.args.symbols c.args.before.now c.args.c.now (taken _ _ _ c.take.ensures.there c.in-Some.is))
    (c.reloc_in_bytes-reloc.ensures ∙ ap reloc_in c.in-Some.ensures.some) c.place-start.ensures.place c.in_err-check_reloc.ensures in
    let p = err_from_is_err_and c.from_residual.result c.from_residual.ensures.1 in
    record {
      read = rw (p.1, p.2) fault;
      bytes = ap (λ (q : Place). q.bytes) c.in-Some.ensures.moved;
    }

pub returns : goal.returns
returns c =
    record {
      read =
          none_told _ (reloc_fault c.args.sections.now c.args.symbols c.args.before.now) _ c.reloc_in_bytes-reloc.result _ c.place-start.result _ c.take.new.self
          (whole_reloc c.args.sections.now c.args.symbols c.args.before.now c.args.c.now (taken _ _ _ c.take.ensures.there c.in-Some.is))
          (c.reloc_in_bytes-reloc.ensures ∙ ap reloc_in c.in-Some.ensures.some) c.place-start.ensures.place c.in-Some.ensures.moved c.in_ok-check_reloc.ensures;
      bytes = ap (λ (q : Place). q.bytes) c.in-Some.ensures.moved;
    }
