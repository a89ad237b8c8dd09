use Rattle.std.proofs.Common.{◌∙◌, ℕ, List, refl}
use Rattle.std.proofs.lemmas.Result.{err_from_is_err_and}
use Rattle.tc_link.specs.Placing.{PlacedData}
use Rattle.tc_link.specs.GlobalSymbols.{GlobalData, globals_of}
use Rattle.tc_link.specs.Refusals.{first_refusal_from, reloc_refusal, first_reloc_refusal}
use Rattle.tc_link.specs.Errors.{refusal_of}
use Rattle.tc_link.proofs.FirstLaws.{more_item, told_item}
use Rattle.tc_link.proofs.RelocLaws.{contents_next}
use Rattle.tc_link.proofs.relocated_sections.all_relocated_sections.Goals as goal

pub loop-number-init : goal.loop-number-init
unfolding first_refusal_from
loop-number-init c = record {
  contents = c.new-contents.ensures.items;
  none = refl;
}

pub loop-number-preserved : goal.loop-number-preserved
loop-number-preserved c =
    let g : List GlobalData = globals_of c.args.placed.now in
    let i : ℕ = c.loop-number.number in
    let x : PlacedData = c.index-placed-number.result in
    record {
      contents = c.in_ok-append_relocated_sections.ensures.ok ∙ contents_next g c.args.placed.now i x c.loop-number.contents.items c.in_ok-sections.sections.items c.loop-number-test.true c.index-placed-number.is c.loop-number.invariant.contents (c.in_ok-sections.ensures.sections g c.requires.globals);
      none = more_item (λ object (p : PlacedData). first_refusal_from (reloc_refusal g object p) 0 p.object.relocs) c.args.placed.now i x c.loop-number-test.true c.index-placed-number.is c.loop-number.invariant.none (c.in_ok-sections.ensures.none g c.requires.globals);
    }

pub returns-in_err-sections-clause-err : goal.returns-in_err-sections-clause-err
unfolding first_reloc_refusal
returns-in_err-sections-clause-err c =
    let g : List GlobalData = globals_of c.args.placed.now in
    let i : ℕ = c.loop-number.number in
    let x : PlacedData = c.index-placed-number.result in
    let p = err_from_is_err_and c.from_residual.result c.from_residual.ensures.1 in
    rw (p.1, p.2) (told_item (λ object (q : PlacedData). first_refusal_from (reloc_refusal g object q) 0 q.object.relocs) c.args.placed.now i x (refusal_of c.in_err-sections.field-0.0) c.loop-number-test.true c.index-placed-number.is c.loop-number.invariant.none (c.in_err-sections.ensures.err g c.requires.globals))
