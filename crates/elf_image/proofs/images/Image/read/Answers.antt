use Rattle.std.proofs.Common.{◌+◌, ◌≤◌, length, map, sym, ap, ◌∙◌, arith}
use Rattle.std.proofs.lemmas.Result.{err_from_is_err_and}
use Rattle.std.proofs.lemmas.List.Elements.{All-weaker}
use Rattle.elf_image.specs.ReadElf.{overlap_refusal, loading_headers, loaded_segment}
use Rattle.elf_image.proofs.Good.{Good, loads_good}
use Rattle.elf_image.proofs.Loaded.{loaded_is_image}
use Rattle.elf_image.proofs.Refusals.{refused_start, refused_segment, refused_loads, refused_overlap, image_of-loaded}
use Rattle.elf_image.proofs.images.Image.read.Goals as goal

pub returns-in_err-check_elf_header : goal.returns-in_err-check_elf_header
returns-in_err-check_elf_header c =
    let p = err_from_is_err_and c.from_residual.result c.from_residual.ensures.1 in
    rw (p.1, p.2) (refused_start c.args.bytes.now _ c.in_err-check_elf_header.ensures.refusal)

pub returns-in_err-check_program_headers : goal.returns-in_err-check_program_headers
returns-in_err-check_program_headers c =
    let p = err_from_is_err_and c.from_residual-in_err-check_program_headers.result c.from_residual-in_err-check_program_headers.ensures.1 in
    rw (p.1, p.2) (refused_segment c.args.bytes.now _ c.in_ok-check_elf_header.ensures.refusal c.in_err-check_program_headers.ensures)

pub returns-in_err-loads : goal.returns-in_err-loads
returns-in_err-loads c =
    let p = err_from_is_err_and c.from_residual-in_err-loads.result c.from_residual-in_err-loads.ensures.1 in
    rw (p.1, p.2) (refused_loads c.args.bytes.now _ c.in_ok-check_elf_header.ensures.refusal c.in_ok-check_program_headers.ensures c.in_err-loads.ensures.err)

pub returns-in_err-check_no_segment_overlap : goal.returns-in_err-check_no_segment_overlap
returns-in_err-check_no_segment_overlap c =
    let p = err_from_is_err_and c.from_residual-in_err-check_no_segment_overlap.result c.from_residual-in_err-check_no_segment_overlap.ensures.1 in
    let loads = c.in_ok-loads.ensures.ok in
    rw (p.1, p.2) (refused_overlap c.args.bytes.now _ c.in_ok-check_elf_header.ensures.refusal c.in_ok-check_program_headers.ensures loads.1 c.deref.result.now (c.deref.ensures.value ∙ loads.0) c.in_err-check_no_segment_overlap.ensures)

pub loaded_segments-requires : goal.loaded_segments-requires
loaded_segments-requires c =
    let bytes = c.args.bytes.now in
    let inside = All-weaker (Good bytes) (λ h. h.offset + h.file_size ≤ length bytes) (λ h good. good.inside) (loading_headers bytes) (loads_good bytes (sym c.in_ok-check_program_headers.ensures)) in
    rw (c.deref-2.ensures.value ∙ c.in_ok-loads.ensures.ok.0) inside

pub invariant_of-result : goal.invariant_of-result
invariant_of-result c =
    let bytes = c.args.bytes.now in
    let loads = c.in_ok-loads.ensures.ok in
    loaded_is_image bytes c.elf_word_at.result _ (omega arith) (λ k. (c.type_inv.bytes k).fits) (sym c.in_ok-check_program_headers.ensures) loads.1 (sym (c.in_ok-check_no_segment_overlap.ensures ∙ ap overlap_refusal (c.deref.ensures.value ∙ loads.0))) (c.in_ok-segments.ensures.ok ∙ ap (map (loaded_segment bytes)) (c.deref-2.ensures.value ∙ loads.0))

pub returns : goal.returns
returns c =
    let bytes = c.args.bytes.now in
    let loads = c.in_ok-loads.ensures.ok in
    image_of-loaded bytes c.elf_word_at.result _ c.in_ok-check_elf_header.ensures.refusal c.in_ok-check_program_headers.ensures loads.1 (c.in_ok-check_no_segment_overlap.ensures ∙ ap overlap_refusal (c.deref.ensures.value ∙ loads.0)) c.elf_word_at.ensures (c.in_ok-segments.ensures.ok ∙ ap (map (loaded_segment bytes)) (c.deref-2.ensures.value ∙ loads.0))
