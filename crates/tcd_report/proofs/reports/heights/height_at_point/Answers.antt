use Rattle.std.proofs.Common.{[], refl, ap, sym}
use Rattle.depth_cert.specs.Points.{point_of}
use Rattle.tcd_report.specs.Graphs.{call_targets_of}
use Rattle.tcd_report.proofs.GraphLemmas.DutyLists.{called_none}
use Rattle.tcd_report.proofs.ReportLemmas.RowLaws.{rows_told}
use Rattle.tcd_report.proofs.ReportLemmas.MostLaws.{most_none}
use Rattle.tcd_report.proofs.reports.heights.height_at_point.Goals as goal

pub returns-in-Call : goal.returns-in-Call
returns-in-Call c =
    let j = c.args.judged.now in
    rows_told j.image.now j.plan.now j.cert.now c.args.heights.now c.args.key.now (point_of c.args.addr c.args.s.now) c.in-Some.found.shape c.in-Some.found.size _ c.height_of_call.result c.in-Some.ensures.code
    (sym (ap (call_targets_of j.plan.now c.args.s.now c.args.addr) c.in-Call.is)) c.height_of_call.ensures

pub returns-in_default-shape : goal.returns-in_default-shape
returns-in_default-shape c =
    let j = c.args.judged.now in
    rows_told j.image.now j.plan.now j.cert.now c.args.heights.now c.args.key.now (point_of c.args.addr c.args.s.now) c.in-Some.found.shape c.in-Some.found.size [] 0 c.in-Some.ensures.code
    (sym (called_none j.plan.now c.args.s.now c.args.addr c.in-Some.found.shape c.in_default-shape.not-Call)) (most_none _)

pub unreachable-requires : goal.unreachable-requires
unreachable-requires c = c.in_default.ensures.code ((c.requires.faultless 3).code refl)
