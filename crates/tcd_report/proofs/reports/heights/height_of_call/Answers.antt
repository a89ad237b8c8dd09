use Rattle.std.proofs.Common.{◌∙◌, ℕ, List, get_or, subst}
use Rattle.std.proofs.lemmas.List.{get_or_default}
use Rattle.depth_cert.specs.Keys.{call_kind}
use Rattle.cfg_recover.specs.Entries.{entered_key}
use Rattle.tcd_report.specs.Reports.Heights.{IsGreatestHeightInList, IsHeightThroughCallee}
use Rattle.tcd_report.proofs.ReportLemmas.MostLaws.{most_more, most_all}
use Rattle.tcd_report.proofs.reports.heights.height_of_call.Goals as goal

pub loop-target-preserved : goal.loop-target-preserved
loop-target-preserved c =
    let ts : List ℕ = c.as_slice-target-items.result.now in
    let i : ℕ = c.loop-target.target-index in
    let x : ℕ = get_or ts i 0 in
    most_more (λ t. IsHeightThroughCallee c.args.heights.now (entered_key c.args.key.now call_kind t)) ts i x c.loop-target.most c.height_of_callee.result c.max-most.result c.loop-target-test.true (get_or_default ts i 0 x c.loop-target-test.true)
    c.loop-target.invariant c.height_of_callee.ensures c.max-most.ensures

pub returns : goal.returns
returns c =
    let h : ℕ → ℕ → Type 0 = λ t. IsHeightThroughCallee c.args.heights.now (entered_key c.args.key.now call_kind t) in
    subst (λ (ts : List ℕ). IsGreatestHeightInList h ts c.loop-target.most) (c.as_slice-target-items.ensures.value ∙ c.targets-functions.ensures)
    (most_all h c.as_slice-target-items.result.now c.loop-target.target-index c.loop-target.most c.loop-target-test.false c.loop-target.invariant)
