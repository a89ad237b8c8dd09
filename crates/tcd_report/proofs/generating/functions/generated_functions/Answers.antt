use Rattle.std.proofs.Common.{◌≡◌, ◌+◌, ◌-◌, ◌++◌, ◌∙◌, List, ℕ, length, replicate, append_assoc, length-append, ap, arith}
use Rattle.std.specs.List.{flat_map, range_with_len}
use Rattle.tcd_report.specs.Generated.{generated_function_code, generated_functions, zero_padded_bytes}
use Rattle.tcd_report.proofs.ImageLemmas.Lengths.{function_short}
use Rattle.tcd_report.proofs.ImageLemmas.Ranges.{pieces_more}
use Rattle.tcd_report.proofs.generating.functions.generated_functions.Goals as goal

pub loop-i-preserved : goal.loop-i-preserved
loop-i-preserved c =
    let old : List ℕ = c.loop-i.out.items in
    let code : List ℕ = generated_function_code c.args.n c.loop-i.i in
    let zeros : ℕ = 32 - (c.len.result - c.len-start.result) in
    let rest : zeros ≡ 32 - length code = omega (arith, ap length c.in_ok-append_function.ensures ∙ length-append old code, c.len.ensures, c.len-start.ensures) in
    pieces_more (λ i. zero_padded_bytes 32 (generated_function_code c.args.n i)) c.loop-i.i _ _ c.loop-i.invariant
    (c.in_ok-append_zeros.ensures
    ∙ ap (λ l. l ++ replicate zeros 0) c.in_ok-append_function.ensures
    ∙ append_assoc old code (replicate zeros 0)
    ∙ ap (λ k. old ++ (code ++ replicate k 0)) rest)

pub overflow_sub-zeros-in-loop-i : goal.overflow_sub-zeros-in-loop-i
overflow_sub-zeros-in-loop-i c =
    let code = generated_function_code c.args.n c.loop-i.i in
    let longer : length c.append_function.new.out.items ≡ length c.loop-i.out.items + length code =
    ap length c.in_ok-append_function.ensures ∙ length-append c.loop-i.out.items code in
    omega (arith, longer, c.len.ensures, c.len-start.ensures, function_short c.args.n c.loop-i.i)

pub returns : goal.returns
unfolding generated_functions
returns c =
    let e : c.loop-i.i ≡ c.args.n - 1 = omega arith in
    c.in_ok-append_function-2.ensures
    ∙ ap (λ l. l ++ generated_function_code c.args.n (c.args.n - 1)) (c.loop-i.invariant ∙ ap (λ k. flat_map (λ i. zero_padded_bytes 32 (generated_function_code c.args.n i)) (range_with_len 0 k)) e)
