use Rattle.std.proofs.Common.{◌∙◌, map, ap, arith}
use Rattle.std.proofs.lemmas.List.{take_all}
use Rattle.depth_cert.specs.Nodes.{NodeData}
use Rattle.tcd_report.specs.Reports.Heights.{need_with_key}
use Rattle.packed_cert.proofs.WalkedPoints.{never_none, mapped_more}
use Rattle.tcd_report.proofs.reports.heights.needs_with_keys.Goals as goal

pub unreachable-requires : goal.unreachable-requires
unreachable-requires c = never_none (c.args.cert.now).nodes c.loop-i.i (omega (arith, c.loop-i-test.true, c.len-i-end.ensures)) c.in_default.ensures

pub loop-i-preserved : goal.loop-i-preserved
loop-i-preserved c =
    c.in_ok-push.ensures.items
    ∙ mapped_more need_with_key (c.args.cert.now).nodes c.loop-i.i c.in-Some.node c.loop-i.ranks.items _ c.in-Some.ensures c.loop-i.invariant (ap (λ (n : NodeData). need_with_key n) c.node.view_is)

pub returns : goal.returns
returns c = c.loop-i.invariant ∙ ap (map need_with_key) (take_all c.loop-i.i (c.args.cert.now).nodes (omega (arith, c.loop-i-test.false, c.len-i-end.ensures)))
