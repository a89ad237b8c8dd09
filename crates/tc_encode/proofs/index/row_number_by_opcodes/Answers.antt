use Rattle.std.proofs.Common.{◌+◌, ◌∙◌, sym, ap, arith, get_or}
use Rattle.std.proofs.lemmas.Option.{slice_get-get_or, slice_get_within}
use Rattle.tc_encode.proofs.Finds.{place_has}
use Rattle.tc_encode.proofs.index.row_number_by_opcodes.Goals as goal

pub returns-then-at-lt410-clause-only : goal.returns-then-at-lt410-clause-only
returns-then-at-lt410-clause-only c = λ place r at first second.
    sym (slice_get-get_or c.index_by_opcodes.result.1.now (c.from-2.result + c.from-3.result) 0 (omega (arith, c.index_by_opcodes.ensures.places)))
    ∙ place_has c.index_by_opcodes.result.0.now c.index_by_opcodes.result.1.now c.args.first c.from-2.result c.from-3.result place r c.index_by_opcodes.ensures.all c.index_by_opcodes.ensures.bases c.ranges.first.fits (c.from-2.ensures ∙ ap (λ f. get_or c.index_by_opcodes.result.0.now f 0) c.from.ensures) at first (second ∙ sym c.from-3.ensures)

pub returns-else-at-lt410-clause-only : goal.returns-else-at-lt410-clause-only
returns-else-at-lt410-clause-only c = λ place r at first second. absurd (
    let there = place_has c.index_by_opcodes.result.0.now c.index_by_opcodes.result.1.now c.args.first c.from-2.result c.from-3.result place r c.index_by_opcodes.ensures.all c.index_by_opcodes.ensures.bases c.ranges.first.fits (c.from-2.ensures ∙ ap (λ f. get_or c.index_by_opcodes.result.0.now f 0) c.from.ensures) at first (second ∙ sym c.from-3.ensures) in
    let within = slice_get_within c.index_by_opcodes.result.1.now (c.from-2.result + c.from-3.result) place there in
    omega (arith, c.index_by_opcodes.ensures.places))
