use Rattle.tcd_laws.proofs.EdgeLines.{accepted_edges_stand}
use Rattle.tcd_laws.proofs.laws.edge_law.Goals as goal

pub returns : goal.returns
returns c = accepted_edges_stand
