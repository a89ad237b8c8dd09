use Rattle.std.proofs.Common.{◌≡◌, List, ℕ, ap, sym, ◌∙◌, subst}
use Rattle.std.specs.Prelude.{map}
use Rattle.elf_image.specs.Images.{HoldOnlyBytes, IsImage, SegmentData, segment_data}
use Rattle.tcd_report.specs.Generated.{generated_segments}
use Rattle.tcd_report.proofs.ImageLemmas.Instructions.{system_bytes}
use Rattle.tcd_report.proofs.ImageLemmas.Wholes.{image_is, segments_are}
use Rattle.tcd_report.proofs.generating.generated_files.generated_image.Goals as goal

pub invariant_of-result : goal.invariant_of-result
invariant_of-result c =
    let n : ℕ = c.args.n in
    let same : map segment_data c.in_ok-segments.segments.items ≡ generated_segments n =
    ap (map segment_data) c.in_ok-segments.ensures.items
    ∙ segments_are n c.in_ok-main.main.items c.in_ok-table.table.items c.in_ok-vectors.vectors.items c.in_ok-system.system.items c.in_ok-functions.functions.items
    (c.in_ok-main.ensures.items ∙ c.generated_main_code.ensures) c.in_ok-table.ensures c.in_ok-vectors.ensures (c.in_ok-system.ensures.items ∙ sym system_bytes) c.in_ok-functions.ensures in
    let bytes : HoldOnlyBytes (generated_segments n) = subst HoldOnlyBytes (ap (map segment_data) c.deref.ensures.value ∙ same) c.establish_segment_bytes.ensures in
    subst (λ (ss : List SegmentData). IsImage (record { entry = 0x80000000; segments = ss })) (sym same) (image_is n c.requires.some c.requires.few bytes)
