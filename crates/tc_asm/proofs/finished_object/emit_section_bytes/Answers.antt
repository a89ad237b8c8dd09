use Rattle.std.proofs.Common.{◌≡◌, ◌+◌, ◌++◌, ℕ, List, length, replicate, sym, ap, ◌∙◌}
use Rattle.tc_asm.specs.declared.sections.Part.{Part}
use Rattle.tc_asm.proofs.PartLaws.{length-zeros, filled}
use Rattle.tc_asm.proofs.finished_object.emit_section_bytes.Goals as goal

pub returns : goal.returns
returns c =
    let r : Part = c.args.part.now in
    let written : List ℕ = c.in_ok-bytes.bytes.items in
    let same : written ≡ r.bytes.items = c.in_ok-bytes.ensures.items ∙ c.deref.ensures.value in
    c.in_ok-resize.ensures.items
    ∙ filled written r.zeros c.section_len.result _
    (c.section_len.ensures ∙ length-zeros r.bytes.items r.zeros ∙ ap (λ (bs : List ℕ). length bs + r.zeros) (sym same)) c.in_ok-bytes.bytes.ok.0
    ∙ ap (λ (bs : List ℕ). bs ++ replicate r.zeros 0) same
