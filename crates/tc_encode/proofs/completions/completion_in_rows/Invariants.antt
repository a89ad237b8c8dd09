use Rattle.std.proofs.Common.{◌<◌, ◌≤◌}
use Rattle.tc_isa.specs.Insts.{InstData}
use Rattle.tc_encode.specs.WordSearch.{IsCompletionOf}
use Rattle.tc_encode.proofs.completions.completion_in_rows.Given as goal

abbrev pub invariant-loop-place : goal.invariant-loop-place
invariant-loop-place l = (i : InstData) → IsCompletionOf l.n l.part i → l.from ≤ i.row → i.row < l.place → ⊥
