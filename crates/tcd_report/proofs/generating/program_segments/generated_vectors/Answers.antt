use Rattle.std.proofs.Common.{◌≡◌, ◌+◌, ◌*◌, ◌++◌, ◌∙◌, List, ℕ, ap, sym, arith, replicate, append_assoc}
use Rattle.std.specs.List.{flat_map, range_with_len}
use Rattle.tcd_report.specs.Generated.{generated_handler, generated_vectors, zero_padded_bytes}
use Rattle.tcd_report.proofs.ImageLemmas.Lengths.{handler_filled}
use Rattle.tcd_report.proofs.ImageLemmas.Ranges.{pieces_more}
use Rattle.tcd_report.proofs.generating.program_segments.generated_vectors.Goals as goal

pub loop-j-preserved : goal.loop-j-preserved
loop-j-preserved c =
    let code : List ℕ = generated_handler c.args.n (10 * c.loop-j.j + 10) in
    pieces_more (λ j. zero_padded_bytes 320 (generated_handler c.args.n (10 * j + 10))) c.loop-j.j _ _ c.loop-j.invariant
    (c.in_ok-append_zeros.ensures
    ∙ ap (λ l. l ++ replicate 308 0) c.in_ok-append_handler.ensures
    ∙ append_assoc c.loop-j.out.items code (replicate 308 0)
    ∙ ap (λ l. c.loop-j.out.items ++ l) (sym (handler_filled c.args.n (10 * c.loop-j.j + 10))))

pub returns : goal.returns
unfolding generated_vectors
returns c =
    let e : c.loop-j.j ≡ 15 = omega arith in
    c.in_ok-append_handler-2.ensures
    ∙ ap (λ l. l ++ generated_handler c.args.n 160) (c.loop-j.invariant ∙ ap (λ k. flat_map (λ j. zero_padded_bytes 320 (generated_handler c.args.n (10 * j + 10))) (range_with_len 0 k)) e)
