use Rattle.std.proofs.Common.{◌++◌, ◌∷◌, [], List, Contains, ap, sym, subst}
use Rattle.value_domain.specs.declared.states.State.{State}
use Rattle.depth_cert.specs.declared.keys.Key.{Key}
use Rattle.depth_cert.specs.declared.points.Point.{Point}
use Rattle.depth_cert.specs.Nodes.{NodeData}
use Rattle.cfg_recover.specs.LocalFaults.{IsFaultless}
use Rattle.tcd_report.specs.Reports.Heights.{IsGreatestHeight, IsGreatestHeightInList, IsHeightThroughCall}
use Rattle.depth_cert.specs.Points.{point_of}
use Rattle.tcd_report.proofs.ReportLemmas.MostLaws.{most_with}
use Rattle.tcd_report.proofs.JudgedPoints.{point_faultless}
use Rattle.packed_cert.proofs.WalkedPoints.{split_more, walked, walked_all}
use Rattle.tcd_report.proofs.reports.heights.height_of_node.Goals as goal

pub height_at_point-requires-clause-faultless : goal.height_at_point-requires-clause-faultless
height_at_point-requires-clause-faultless c =
    let j = c.args.judged.now in
    let p : Point = point_of c.in-Some.addr c.advance.new.self.current in
    let there : Contains (c.args.node.now).points p = walked (c.args.node.now).points c.loop-addr.invariant.done (c.loop-addr.walk).left c.advance.new.self.left p c.loop-addr.invariant.split c.in-Some.ensures.0 in
    subst (λ (k : Key). IsFaultless j.bounds.now j.image.now j.plan.now k c.in-Some.addr c.state.result.now) (sym (ap (λ (n : NodeData). n.key) c.node.view_is))
    (subst (λ (s : State). IsFaultless j.bounds.now j.image.now j.plan.now (c.args.node.now).key c.in-Some.addr s) (sym c.state.ensures)
    (point_faultless j.image.now j.plan.now j.cert.now c.requires.judged.accepted c.args.node.now c.requires.stands p there j.bounds.now c.requires.judged.limits))

pub loop-addr-preserved : goal.loop-addr-preserved
loop-addr-preserved c =
    let j = c.args.judged.now in
    let inv = c.loop-addr.invariant in
    let p : Point = point_of c.in-Some.addr c.advance.new.self.current in
    let row =
    subst (λ (s : State). IsGreatestHeight (IsHeightThroughCall j.image.now j.plan.now j.cert.now c.args.heights.now (c.args.node.now).key (point_of c.in-Some.addr s)) c.height_at_point.result) c.state.ensures
    (subst (λ (k : Key). IsGreatestHeight (IsHeightThroughCall j.image.now j.plan.now j.cert.now c.args.heights.now k (point_of c.in-Some.addr c.state.result.now)) c.height_at_point.result) (ap (λ (n : NodeData). n.key) c.node.view_is) c.height_at_point.ensures) in
    record {
      done = inv.done ++ p ∷ [];
      split = split_more (c.args.node.now).points inv.done (c.loop-addr.walk).left c.advance.new.self.left p inv.split c.in-Some.ensures.0;
      most = most_with (IsHeightThroughCall j.image.now j.plan.now j.cert.now c.args.heights.now (c.args.node.now).key) inv.done p c.loop-addr.most c.height_at_point.result c.max-most.result inv.most row c.max-most.ensures;
    }

pub returns : goal.returns
returns c =
    let j = c.args.judged.now in
    let inv = c.loop-addr.invariant in
    subst (λ (l : List Point). IsGreatestHeightInList (IsHeightThroughCall j.image.now j.plan.now j.cert.now c.args.heights.now (c.args.node.now).key) l c.loop-addr.most)
    (sym (walked_all (c.args.node.now).points inv.done (c.loop-addr.walk).left inv.split c.in_default.ensures.0)) inv.most
