use Rattle.std.proofs.Common.{◌∙◌, ap, sym}
use Rattle.std.specs.Prelude.{is_some}
use Rattle.tcd_report.proofs.GraphLemmas.DutyLists.{possible_some}
use Rattle.tcd_report.proofs.graphs.successors.is_branch_edge_feasible.Goals as goal

pub returns : goal.returns
returns c = sym (possible_some c.write_branch_change.result _) ∙ ap is_some c.write_branch_change.ensures.refine
