use Rattle.std.proofs.Common.{◌≡◌}
use Rattle.std.specs.List.{flat_map, range_with_len}
use Rattle.tcd_report.specs.Generated.{generated_function_code, zero_padded_bytes}
use Rattle.tcd_report.proofs.generating.functions.generated_functions.Given as goal

abbrev pub invariant-loop-i : goal.invariant-loop-i
invariant-loop-i l = l.out.items ≡ flat_map (λ i. zero_padded_bytes 32 (generated_function_code l.n i)) (range_with_len 0 l.i)
