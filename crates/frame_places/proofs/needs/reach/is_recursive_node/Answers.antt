use Rattle.std.proofs.Common.{◌∙◌, List, Bool, subst, sym, ap, length}
use Rattle.frame_places.specs.NodeGraph.{AreEdgesBelow, AreReachingMarks}
use Rattle.frame_places.proofs.ReachLemmas.{recurring_marks, sources_below}
use Rattle.frame_places.proofs.needs.reach.is_recursive_node.Goals as goal

pub reaching_marks_by_predecessors-requires-clause-sources : goal.reaching_marks_by_predecessors-requires-clause-sources
reaching_marks_by_predecessors-requires-clause-sources c = sources_below c.args.edges.now c.args.sources.now c.args.nodes c.requires.sources c.requires.edges

pub has_marked_successor-requires : goal.has_marked_successor-requires
has_marked_successor-requires c =
    let are = c.in_ok-marks.ensures c.args.edges.now c.requires.sources in
    subst (AreEdgesBelow c.args.edges.now) (sym (ap (λ (l : List Bool). length l) c.as_slice.ensures.value ∙ are.each)) c.requires.edges

pub returns : goal.returns
returns c =
    recurring_marks c.args.edges.now c.args.nodes c.args.node c.as_slice.result.now c.has_marked_successor.result
    (subst (AreReachingMarks c.args.edges.now c.args.nodes c.args.node) (sym c.as_slice.ensures.value) (c.in_ok-marks.ensures c.args.edges.now c.requires.sources)) c.has_marked_successor.ensures
