use Rattle.std.proofs.Common.{◌∙◌, ap}
use Rattle.std.proofs.lemmas.Result.{err_from_is_err_and}
use Rattle.tcd_base.specs.Place.{Place}
use Rattle.tc_object.specs.Faults.{symbol_fault}
use Rattle.tc_object.proofs.RecordLaws.{symbol_in, whole_symbol, taken, none_told, fault_told}
use Rattle.tc_object.proofs.symbol_reader.read_symbol_after_name.Goals as goal

pub returns-in_err-check_symbol-clause-read : goal.returns-in_err-check_symbol-clause-read
returns-in_err-check_symbol-clause-read c =
    let fault = fault_told _ (symbol_fault c.args.sections.now) _ _ _ c.place-start.result _ _
    (whole_symbol c.args.sections.now c.args.name.now c.args.c.now (taken _ _ _ c.take.ensures.there c.in-Some.is))
    (c.symbol_in_bytes-symbol.ensures ∙ ap (symbol_in c.args.name.now) c.in-Some.ensures.some) c.place-start.ensures.place c.in_err-check_symbol.ensures in
    let p = err_from_is_err_and c.from_residual.result c.from_residual.ensures.1 in
    record {
      read = rw (p.1, p.2) fault;
      bytes = ap (λ (q : Place). q.bytes) c.in-Some.ensures.moved;
    }

pub returns-clause-read : goal.returns-clause-read
returns-clause-read c =
    record {
      read =
          none_told _ (symbol_fault c.args.sections.now) _ _ _ c.place-start.result _ c.take.new.self
          (whole_symbol c.args.sections.now c.args.name.now c.args.c.now (taken _ _ _ c.take.ensures.there c.in-Some.is))
          (c.symbol_in_bytes-symbol.ensures ∙ ap (symbol_in c.args.name.now) c.in-Some.ensures.some) c.place-start.ensures.place c.in-Some.ensures.moved c.in_ok-check_symbol.ensures;
      bytes = ap (λ (q : Place). q.bytes) c.in-Some.ensures.moved;
    }
