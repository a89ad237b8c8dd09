use Rattle.tcd_report.proofs.GraphLemmas.EdgeProofs as edges
use Rattle.tcd_report.proofs.laws.graph_law.Goals as goal

pub returns : goal.returns
returns c = edges.edges_stand
