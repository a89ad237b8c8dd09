use Rattle.std.proofs.Common.{sym}
use Rattle.std.proofs.lemmas.Bool.{eqb-true}
use Rattle.task_chains.proofs.DraftLaws.{drafted_all}
use Rattle.task_chains.proofs.drafts.read_tasks_draft.Goals as goal

pub returns-clause-ok : goal.returns-clause-ok
returns-clause-ok c = drafted_all c.args.bytes.now c.lines.rest.now c.lines.number c.lines.draft (eqb-true _ _ (sym c.lines-test.ensures)) c.lines.invariant.made
