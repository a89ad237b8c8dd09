use Rattle.std.proofs.Common.{◌≡◌, ◌+◌, ◌≤◌, length}
use Rattle.tcd_text.specs.Lines.{text_lines}
use Rattle.tc_script.specs.ScriptText.{initial_script_draft, script_draft_after_lines}
use Rattle.tc_script.proofs.scripts.Script.read.Given as goal

abbrev pub invariant-lines : goal.invariant-lines
invariant-lines l = record {
  result : script_draft_after_lines l.plan (l.number + 1) (text_lines l.rest) l.draft ≡ script_draft_after_lines l.plan 1 (text_lines l.fn.bytes) (initial_script_draft l.plan);
  devices : length l.draft.script.bounds ≡ length l.plan.devices;
  left : l.number + length l.rest ≤ length l.fn.bytes;
}

abbrev pub decreases-lines : goal.decreases-lines
decreases-lines l = length l.rest
