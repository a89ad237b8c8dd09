use Rattle.std.proofs.Common.{◌∙◌, ◌∷◌, [], map, ap, arith}
use Rattle.std.proofs.lemmas.List.{map-append}
use Rattle.serde_json.specs.View.{view}
use Rattle.tcd_report.specs.Reports.{reported_node}
use Rattle.packed_cert.proofs.WalkedPoints.{never_none, mapped_more}
use Rattle.tcd_report.proofs.reports.report_text.nodes_value.Goals as goal

pub unreachable-requires : goal.unreachable-requires
unreachable-requires c = never_none (c.args.cert.now).nodes c.loop-i.i (omega (arith, c.loop-i-test.true, c.len-i-end.ensures)) c.in_default.ensures

pub loop-i-preserved : goal.loop-i-preserved
loop-i-preserved c =
    ap (map view) c.in_ok-push.ensures.items
    ∙ map-append view c.loop-i.values.items (c.in_ok-value.value ∷ [])
    ∙ mapped_more reported_node (c.args.cert.now).nodes c.loop-i.i c.in-Some.node (map view c.loop-i.values.items) (view c.in_ok-value.value) c.in-Some.ensures c.loop-i.invariant c.in_ok-value.ensures
