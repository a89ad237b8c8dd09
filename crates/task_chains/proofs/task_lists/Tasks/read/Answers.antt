use Rattle.tcd_text.specs.Lines.{text_lines}
use Rattle.task_chains.proofs.ReadingLaws.{drafted_said}
use Rattle.task_chains.proofs.task_lists.Tasks.read.Goals as goal

pub returns-in-None-clause-read : goal.returns-in-None-clause-read
returns-in-None-clause-read c =
    let lines = text_lines c.args.bytes.now in
    c.from_parts.ensures.read lines
    (drafted_said c.args.plan.now lines c.in_ok-draft.draft.places c.in-Some.places c.in_ok-draft.draft.list.items c.in_ok-draft.draft.eighth c.in_ok-draft.ensures.ok c.in-Some.is c.in-None.is)
