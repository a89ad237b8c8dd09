use Rattle.std.proofs.Common.{◌≡◌, ◌%◌, ◌++◌, ◌∙◌, ap, arith}
use Rattle.std.specs.List.{flat_map, range_with_len}
use Rattle.tcd_base.specs.Bytes.{bytes_of_word}
use Rattle.tcd_report.specs.Generated.{generated_function_address, generated_function_table}
use Rattle.tcd_report.proofs.ImageLemmas.Ranges.{pieces_more}
use Rattle.tcd_report.proofs.generating.program_segments.generated_function_table.Goals as goal

pub loop-j-preserved : goal.loop-j-preserved
loop-j-preserved c =
    pieces_more (λ j. bytes_of_word (generated_function_address (j % c.args.n))) c.loop-j.j _ _ c.loop-j.invariant
    (c.in_ok-put_u32.ensures.ok ∙ ap (λ x. c.loop-j.out.items ++ bytes_of_word x) c.generated_function_address.ensures)

pub returns : goal.returns
unfolding generated_function_table
returns c =
    let e : c.loop-j.j ≡ 16 = omega arith in
    c.loop-j.invariant ∙ ap (λ k. flat_map (λ j. bytes_of_word (generated_function_address (j % c.args.n))) (range_with_len 0 k)) e
