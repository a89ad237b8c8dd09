use Rattle.std.proofs.Common.{[], refl, sym, arith, string_bytes}
use Rattle.std.proofs.lemmas.Option.{slice_get_within, get_or_from_slice_get}
use Rattle.tcd_report.specs.Graphs.{AreNodeLines}
use Rattle.tcd_report.proofs.GraphLemmas.Joining.{grown_more, grown_all}
use Rattle.packed_cert.proofs.WalkedPoints.{never_none, got}
use Rattle.tcd_report.proofs.graphs.graph.Goals as goal

pub unreachable-requires : goal.unreachable-requires
unreachable-requires c = never_none (c.args.cert.now).nodes c.loop-i.i (omega (arith, c.loop-i-test.true, c.len-i-end.ensures)) c.in_default.ensures

pub append_node_lines-requires-clause-stands : goal.append_node_lines-requires-clause-stands
append_node_lines-requires-clause-stands c = (got (c.args.cert.now).nodes c.loop-i.i c.in-Some.node c.in-Some.ensures).2

pub loop-i-init : goal.loop-i-init
loop-i-init c = record {
  grown = record { lines = []; are = record { parts = []; each = tt; are = refl }; grown = c.empty_drawing-graph.ensures.text };
  handlers = c.empty_drawing-graph.ensures.handlers c.args.plan.now;
}

pub loop-i-preserved : goal.loop-i-preserved
loop-i-preserved c =
    let nodes = (c.args.cert.now).nodes in
    let node = c.in-Some.node in
    let found = sym c.in-Some.ensures in
    record {
      grown = grown_more (AreNodeLines c.args.image.now c.args.plan.now c.args.cert.now) nodes c.loop-i.i node [] (string_bytes c.loop-i.graph.text) (string_bytes c.append_node_lines.new.graph.text) (slice_get_within nodes c.loop-i.i node found)
          (sym (get_or_from_slice_get nodes c.loop-i.i node node found)) c.loop-i.invariant.grown c.in_ok-append_node_lines.ensures.lines;
      handlers = c.in_ok-append_node_lines.ensures.handlers;
    }

pub returns : goal.returns
returns c =
    let g = grown_all (AreNodeLines c.args.image.now c.args.plan.now c.args.cert.now) (c.args.cert.now).nodes c.loop-i.i [] (string_bytes c.loop-i.graph.text) (omega (arith, c.loop-i-test.false, c.len-i-end.ensures)) c.loop-i.invariant.grown in
    record { lines = g.lines; are = g.are; text_is = g.grown }
