use Rattle.std.proofs.Common.{◌≡◌, ◌%◌}
use Rattle.std.specs.List.{flat_map, range_with_len}
use Rattle.tcd_base.specs.Bytes.{bytes_of_word}
use Rattle.tcd_report.specs.Generated.{generated_function_address}
use Rattle.tcd_report.proofs.generating.program_segments.generated_function_table.Given as goal

abbrev pub invariant-loop-j : goal.invariant-loop-j
invariant-loop-j l = l.out.items ≡ flat_map (λ j. bytes_of_word (generated_function_address (j % l.n))) (range_with_len 0 l.j)
