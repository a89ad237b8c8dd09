use Rattle.frame_places.proofs.ReachLemmas.{sources_below}
use Rattle.frame_places.proofs.needs.reach.reaching_marks.Goals as goal

pub reaching_marks_by_predecessors-requires-clause-sources : goal.reaching_marks_by_predecessors-requires-clause-sources
reaching_marks_by_predecessors-requires-clause-sources c = sources_below c.args.edges.now c.in_ok-sources.sources c.args.nodes c.in_ok-sources.ensures c.requires.edges
