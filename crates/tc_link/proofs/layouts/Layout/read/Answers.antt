use Rattle.std.proofs.Common.{◌≡◌, ℕ, List, length, Result, Ok, sym, subst, ap, arith}
use Rattle.std.specs.Prelude.{IfOk, IfErr}
use Rattle.std.proofs.lemmas.Bool.Decides.{nat_tests}
use Rattle.std.proofs.lemmas.Result.{err_from_is_err_and}
use Rattle.tc_link.specs.declared.layout_errors.LayoutErr.{LayoutErr}
use Rattle.tc_link.specs.Layouts.{LayoutData}
use Rattle.tcd_text.specs.Lines.{text_lines}
use Rattle.tc_link.specs.LayoutFaults.{IsLayoutFaultOf}
use Rattle.tc_link.specs.LayoutDrafts.{LayoutDraftData}
use Rattle.tc_link.proofs.ReadLaws.{reached_none, reached_more, reached_fault, reached_end}
use Rattle.tc_link.proofs.layouts.Layout.read.Goals as goal

pub lines-init : goal.lines-init
lines-init c = record {
  short = omega arith;
  reached = reached_none c.args.bytes.now c.new-draft.result (ap (λ (d : LayoutDraftData). d.entries) c.new-draft.ensures) (ap (λ (d : LayoutDraftData). d.places) c.new-draft.ensures);
}

pub returns-in_err-add_line-clause-err : goal.returns-in_err-add_line-clause-err
returns-in_err-add_line-clause-err c =
    let rest : List ℕ = c.lines.rest.now in
    let fault = reached_fault (text_lines c.args.bytes.now) c.lines.number rest c.cut_line.result.0.now c.cut_line.result.1.now c.lines.draft c.in_err-add_line.field-0.0 c.lines.invariant.reached c.cut_line.ensures.lines c.in_err-add_line.ensures.err in
    let p = err_from_is_err_and c.from_residual.result c.from_residual.ensures.1 in
    rw (p.1, p.2) fault

pub lines-preserved : goal.lines-preserved
lines-preserved c =
    let rest : List ℕ = c.lines.rest.now in
    record {
      short = omega (arith, c.cut_line.ensures.shorter, c.lines.invariant.short);
      reached = reached_more (text_lines c.args.bytes.now) c.lines.number rest c.cut_line.result.0.now c.cut_line.result.1.now c.lines.draft c.add_line.new.self c.lines.invariant.reached c.cut_line.ensures.lines c.in_ok-add_line.ensures.good c.in_ok-add_line.ensures.ok;
    }

pub returns-clause-ok : goal.returns-clause-ok
returns-clause-ok c =
    let none : length c.lines.rest.now ≡ 0 = grind (arith, nat_tests) in
    let end = reached_end (text_lines c.args.bytes.now) c.lines.number c.lines.rest.now c.lines.draft c.lines.invariant.reached none in
    subst (λ (r : Result LayoutData LayoutErr). IfOk c.finish.result (λ (l : LayoutData). r ≡ Ok l)) (sym end) c.finish.ensures.ok

pub returns-clause-err : goal.returns-clause-err
returns-clause-err c =
    let none : length c.lines.rest.now ≡ 0 = grind (arith, nat_tests) in
    let end = reached_end (text_lines c.args.bytes.now) c.lines.number c.lines.rest.now c.lines.draft c.lines.invariant.reached none in
    subst (λ (r : Result LayoutData LayoutErr). IfErr c.finish.result (IsLayoutFaultOf r)) (sym end) c.finish.ensures.err
