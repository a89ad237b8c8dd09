use Rattle.std.proofs.Common.{◌≡◌, ◌*◌, ◌++◌, length, drop}
use Rattle.std.specs.List.{flat_map}
use Rattle.tcd_base.specs.Bytes.{four_bytes}
use Rattle.task_chains.proofs.routine.routine_bytes_of_words.Given as goal

-- the bytes so far, and those of the other words
abbrev pub invariant-loop-w : goal.invariant-loop-w
invariant-loop-w l = record {
  bytes : l.bytes.items ++ flat_map four_bytes (drop l.w-index l.words) ≡ flat_map four_bytes l.words;
  size : length l.bytes.items ≡ 4 * l.w-index;
}
