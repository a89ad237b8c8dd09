use Rattle.std.proofs.Common.{◌≡◌, ◌+◌, length, ap, ◌∙◌, arith}
use Rattle.std.proofs.lemmas.Bool.Decides.{nat_tests}
use Rattle.std.proofs.lemmas.Result.{err_from_is_err_and}
use Rattle.tcd_text.specs.Lines.{text_lines}
use Rattle.tc_script.specs.ScriptText.{initial_script_draft, script_draft_after_lines, script_of_draft}
use Rattle.tc_script.proofs.Lines.{taken, refused, all_read}
use Rattle.tc_script.proofs.Inside.{script_fits}
use Rattle.tc_script.proofs.scripts.Script.read.Goals as goal

pub returns-in_err-read_line-clause-script : goal.returns-in_err-read_line-clause-script
returns-in_err-read_line-clause-script c =
    let plan = c.args.plan.now in
    let all = script_draft_after_lines plan 1 (text_lines c.args.bytes.now) (initial_script_draft plan) in
    let p = err_from_is_err_and c.from_residual.result c.from_residual.ensures.1 in
    rw (p.1, p.2) (refused plan (c.lines.number + 1) _ c.cut_line.result.0.now (text_lines c.cut_line.result.1.now) c.lines.draft all c.cut_line.ensures.lines c.lines.invariant.result c.in_err-read_line.field-0.0 c.in_err-read_line.ensures.read)

pub lines-preserved : goal.lines-preserved
lines-preserved c =
    let plan = c.args.plan.now in
    let all = script_draft_after_lines plan 1 (text_lines c.args.bytes.now) (initial_script_draft plan) in
    record {
      result = taken plan (c.lines.number + 1) _ c.cut_line.result.0.now (text_lines c.cut_line.result.1.now) c.lines.draft all c.cut_line.ensures.lines c.lines.invariant.result c.read_line.new.self c.in_ok-read_line.ensures.read;
      devices = c.read_line.ensures.devices ∙ c.lines.invariant.devices;
      left = omega (arith, c.lines.invariant.left, c.cut_line.ensures.shorter);
    }

pub returns-clause-script : goal.returns-clause-script
returns-clause-script c =
    let plan = c.args.plan.now in
    let all = script_draft_after_lines plan 1 (text_lines c.args.bytes.now) (initial_script_draft plan) in
    let none : length c.lines.rest.now ≡ 0 = grind (arith, nat_tests) in
    ap script_of_draft (all_read plan (c.lines.number + 1) c.lines.rest.now c.lines.draft all none c.lines.invariant.result)

pub returns-clause-fits : goal.returns-clause-fits
returns-clause-fits c =
    let plan = c.args.plan.now in
    let all = script_draft_after_lines plan 1 (text_lines c.args.bytes.now) (initial_script_draft plan) in
    let none : length c.lines.rest.now ≡ 0 = grind (arith, nat_tests) in
    script_fits plan (text_lines c.args.bytes.now) c.lines.draft c.new-draft.ensures.plan (all_read plan (c.lines.number + 1) c.lines.rest.now c.lines.draft all none c.lines.invariant.result)
