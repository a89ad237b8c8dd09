use Rattle.std.proofs.Common.{◌∙◌, ◌++◌, ap, sym, append-nil}
use Rattle.tcd_report.proofs.GraphLemmas.DutyLists.{side_there, side_missing}
use Rattle.tcd_report.proofs.graphs.successors.push_branch_successor.Goals as goal

pub returns-in_ok-push : goal.returns-in_ok-push
returns-in_ok-push c = c.in_ok-push.ensures.items ∙ ap (λ l. c.args.all.now.items ++ l) (sym (side_there c.args.to _ c.is_branch_edge_feasible.result c.is_branch_edge_feasible.ensures c.if-is_branch_edge_feasible.true))

pub returns-else-is_branch_edge_feasible : goal.returns-else-is_branch_edge_feasible
returns-else-is_branch_edge_feasible c = sym (ap (λ l. c.args.all.now.items ++ l) (side_missing c.args.to _ c.is_branch_edge_feasible.result c.is_branch_edge_feasible.ensures c.if-is_branch_edge_feasible.false) ∙ append-nil c.args.all.now.items)
