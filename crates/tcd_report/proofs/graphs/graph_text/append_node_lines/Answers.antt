use Rattle.std.proofs.Common.{◌∙◌, ◌++◌, ◌∷◌, [], List, Contains, ap, sym, subst, string_bytes}
use Rattle.value_domain.specs.State.{AreInLattice}
use Rattle.value_domain.specs.declared.states.State.{State}
use Rattle.depth_cert.specs.declared.keys.Key.{Key}
use Rattle.depth_cert.specs.declared.points.Point.{Point}
use Rattle.depth_cert.specs.Nodes.{NodeData}
use Rattle.cfg_recover.specs.LocalFaults.{IsFaultless}
use Rattle.tcd_report.specs.Graphs.{ArePointLines, AreJoinedLines, node_line_prefix}
use Rattle.tcd_report.specs.Texts.{GrowsByLines}
use Rattle.depth_cert.specs.Points.{point_of}
use Rattle.tcd_report.proofs.GraphLemmas.Joining.{grown_push}
use Rattle.tcd_report.proofs.JudgedPoints.{point_values, point_faultless}
use Rattle.packed_cert.proofs.WalkedPoints.{split_more, walked, walked_all}
use Rattle.tcd_report.proofs.graphs.graph_text.append_node_lines.Goals as goal

pub append_point_lines-requires-clause-values : goal.append_point_lines-requires-clause-values
append_point_lines-requires-clause-values c =
    let j = c.args.judged.now in
    let p : Point = point_of c.in-Some.addr c.advance.new.self.current in
    let there : Contains (c.args.node.now).points p = walked (c.args.node.now).points c.loop-addr.invariant.done (c.loop-addr.walk).left c.advance.new.self.left p c.loop-addr.invariant.split c.in-Some.ensures.0 in
    subst (λ (s : State). AreInLattice j.bounds.now s.regs) (sym c.state.ensures)
    (point_values j.image.now j.plan.now j.cert.now c.requires.judged.accepted c.args.node.now c.requires.stands p there j.bounds.now c.requires.judged.limits)

pub append_point_lines-requires-clause-faultless : goal.append_point_lines-requires-clause-faultless
append_point_lines-requires-clause-faultless c =
    let j = c.args.judged.now in
    let p : Point = point_of c.in-Some.addr c.advance.new.self.current in
    let there : Contains (c.args.node.now).points p = walked (c.args.node.now).points c.loop-addr.invariant.done (c.loop-addr.walk).left c.advance.new.self.left p c.loop-addr.invariant.split c.in-Some.ensures.0 in
    subst (λ (k : Key). IsFaultless j.bounds.now j.image.now j.plan.now k c.in-Some.addr c.state.result.now) (sym (ap (λ (n : NodeData). n.key) c.node.view_is))
    (subst (λ (s : State). IsFaultless j.bounds.now j.image.now j.plan.now (c.args.node.now).key c.in-Some.addr s) (sym c.state.ensures)
    (point_faultless j.image.now j.plan.now j.cert.now c.requires.judged.accepted c.args.node.now c.requires.stands p there j.bounds.now c.requires.judged.limits))

pub loop-addr-preserved : goal.loop-addr-preserved
loop-addr-preserved c =
    let j = c.args.judged.now in
    let inv = c.loop-addr.invariant in
    let p : Point = point_of c.in-Some.addr c.advance.new.self.current in
    let grows =
    subst (λ (s : State). GrowsByLines (ArePointLines j.image.now j.plan.now j.cert.now (c.args.node.now).key (point_of c.in-Some.addr s)) (string_bytes c.loop-addr.graph.text) (string_bytes c.append_point_lines.new.graph.text)) c.state.ensures
    (subst (λ (k : Key). GrowsByLines (ArePointLines j.image.now j.plan.now j.cert.now k (point_of c.in-Some.addr c.state.result.now)) (string_bytes c.loop-addr.graph.text) (string_bytes c.append_point_lines.new.graph.text)) (ap (λ (n : NodeData). n.key) c.node.view_is)
    c.in_ok-append_point_lines.ensures.lines) in
    record {
      done = inv.done ++ p ∷ [];
      split = split_more (c.args.node.now).points inv.done (c.loop-addr.walk).left c.advance.new.self.left p inv.split c.in-Some.ensures.0;
      front = c.in_ok-append_point_lines.ensures.front ∙ ap node_line_prefix (ap (λ (n : NodeData). n.key) c.node.view_is);
      handlers = c.in_ok-append_point_lines.ensures.handlers;
      grown = grown_push (ArePointLines j.image.now j.plan.now j.cert.now (c.args.node.now).key) inv.done p (string_bytes c.args.graph.now.text) (string_bytes c.loop-addr.graph.text) (string_bytes c.append_point_lines.new.graph.text) inv.grown grows;
    }

pub returns-clause-lines : goal.returns-clause-lines
returns-clause-lines c =
    let j = c.args.judged.now in
    let inv = c.loop-addr.invariant in
    subst (λ (l : List Point). GrowsByLines (AreJoinedLines (ArePointLines j.image.now j.plan.now j.cert.now (c.args.node.now).key) l) (string_bytes c.args.graph.now.text) (string_bytes c.loop-addr.graph.text))
    (sym (walked_all (c.args.node.now).points inv.done (c.loop-addr.walk).left inv.split c.in_default.ensures.0)) inv.grown
