use Rattle.std.proofs.Common.{◌+◌, ◌≤◌, length}
use Rattle.task_chains.proofs.DraftLaws.{IsDraftSoFar}
use Rattle.task_chains.proofs.drafts.read_tasks_draft.Given as goal

-- the draft is that of the lines before those that are left, which are at most as many as bytes
abbrev pub invariant-lines : goal.invariant-lines
invariant-lines l = record {
  made : IsDraftSoFar l.fn.bytes l.rest l.number l.draft;
  left : l.number + length l.rest ≤ length l.fn.bytes;
}

abbrev pub decreases-lines : goal.decreases-lines
decreases-lines l = length l.rest
