use Rattle.std.proofs.Common.{◌≡◌, ◌+◌, ◌*◌}
use Rattle.std.specs.List.{flat_map, range_with_len}
use Rattle.tcd_report.specs.Generated.{generated_handler, zero_padded_bytes}
use Rattle.tcd_report.proofs.generating.program_segments.generated_vectors.Given as goal

abbrev pub invariant-loop-j : goal.invariant-loop-j
invariant-loop-j l = l.out.items ≡ flat_map (λ j. zero_padded_bytes 320 (generated_handler l.n (10 * j + 10))) (range_with_len 0 l.j)
