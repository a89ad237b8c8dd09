use Rattle.std.proofs.Common.{◌∙◌, ap}
use Rattle.tcd_plan.specs.PlanData.{PlanData}
use Rattle.tcd_report.specs.Reports.{reported_count}
use Rattle.serde_json.specs.View.{members_view}
use Rattle.serde_json.proofs.Views.{view-Object}
use Rattle.tcd_report.proofs.ReportLemmas.ReportTexts.{whole_is}
use Rattle.tcd_report.proofs.reports.report_text.report_value.Goals as goal

pub returns : goal.returns
returns c =
    view-Object c.put-5.new.map
    ∙ whole_is _ _ _ _ _ _ _ _ _ _ _ _ _ _ (ap members_view c.new-members.ensures.empty) c.in_ok-put.ensures.ok c.in_ok-put-2.ensures.ok c.in_ok-put-3.ensures.ok c.in_ok-put-4.ensures.ok c.in_ok-put-5.ensures.ok
    (c.from.ensures ∙ ap (λ (p : PlanData). reported_count p.areas) c.plan.view_is)
    c.from-2.ensures
    (c.from-3.ensures ∙ ap (λ (p : PlanData). reported_count p.reserve) c.plan.view_is)
