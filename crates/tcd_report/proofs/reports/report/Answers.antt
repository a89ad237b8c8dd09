use Rattle.std.proofs.Common.{◌≡◌, ◌∙◌, ◌++◌, ℕ, false, List, [], ◌∷◌, Option, ap}
use Rattle.std.specs.Prelude.{nat_eq}
use Rattle.std.specs.HashMap.{get}
use Rattle.serde_json.specs.View.{view}
use Rattle.serde_json.specs.Written.{compact_text, has_float}
use Rattle.depth_cert.specs.Certs.{CertData, IsCert}
use Rattle.cfg_recover.specs.RulesHoldOrFail.{certified_need}
use Rattle.tcd_report.specs.Reports.Longest.{priority_count, IsHeightAtPriority, longest_calls_below, IsLongestIfAny}
use Rattle.tcd_report.specs.declared.reports.longest_by_priority.LongestCalls.{LongestCalls}
use Rattle.tcd_report.specs.Reports.{nodes_data, all_longest_calls_data, report_object_data, report_data}
use Rattle.tcd_report.proofs.ReportLemmas.LongestLaws.{prios_are, rows_longest}
use Rattle.tcd_report.proofs.ReportLemmas.ReportTexts.{report_plain}
use Rattle.tcd_report.proofs.reports.report.Goals as goal

pub returns : goal.returns
unfolding priority_count
returns c =
    let image = c.args.image.now in
    let plan = c.args.plan.now in
    let cert : CertData = c.args.cert.now in
    let is : IsCert cert = c.version.ensures.limits in
    let heights = c.in_ok-heights.heights in
    let row : ℕ → Option ℕ = get nat_eq c.in_ok-known.known in
    let rows : List LongestCalls = longest_calls_below row priority_count in
    let greatest : (p : ℕ) → IsLongestIfAny (IsHeightAtPriority heights cert.nodes p) (row p) = c.in_ok-known.ensures in
    let rows_are : c.in_ok-rows.rows.items ≡ rows = c.in_ok-rows.ensures in
    let calls_are : view c.in_ok-calls.calls ≡ all_longest_calls_data rows = c.in_ok-calls.ensures ∙ ap all_longest_calls_data (c.deref.ensures.value ∙ rows_are) in
    let nodes_are : view c.in_ok-nodes.nodes ≡ nodes_data cert.nodes = c.in_ok-nodes.ensures in
    let value_is : view c.in_ok-value.value ≡ report_data image plan cert rows =
    c.in_ok-value.ensures
    ∙ ap (λ d. report_object_data plan.areas d c.certified_need-need.result (view c.in_ok-nodes.nodes) plan.reserve) calls_are
    ∙ ap (λ n. report_object_data plan.areas (all_longest_calls_data rows) n (view c.in_ok-nodes.nodes) plan.reserve) c.certified_need-need.ensures
    ∙ ap (λ d. report_object_data plan.areas (all_longest_calls_data rows) (certified_need image plan cert) d plan.reserve) nodes_are in
    let plain : has_float (view c.in_ok-value.value) ≡ false = ap has_float value_is ∙ report_plain plan.areas (certified_need image plan cert) plan.reserve rows cert.nodes in
    record {
      rows = rows;
      prios = prios_are image plan cert is heights c.in_ok-heights.ensures.tells c.in_ok-heights.ensures.all row greatest priority_count;
      longest = rows_longest image plan cert is heights c.in_ok-heights.ensures.tells c.in_ok-heights.ensures.all row greatest priority_count;
      is = c.in_ok-append_str.ensures ∙ ap (λ l. l ++ 10 ∷ []) (c.in_ok-text.ensures.text plain ∙ ap compact_text value_is);
    }
