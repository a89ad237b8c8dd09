-- The boot sequence as the one segment of an image.
use Rattle.std.proofs.Common.{◌≡◌, ℕ, List, [], ◌∷◌, ◌++◌, map, ap, ◌∙◌}
use Rattle.elf_image.specs.Images.{ImageData, SegmentData, segment_data}
use Rattle.elf_image.specs.declared.segments.Segment.{Segment}
use Rattle.tcd_plan.specs.PlanData.{PlanData}
use Rattle.tc_boot.specs.Sequence.{boot_bytes_of, boot_image_of}

abbrev pub image_at : ℕ → List SegmentData → ImageData
image_at at segments = record { entry = at; segments = segments }

-- the image with the segment that was pushed
pub boot_image-is : (plan : PlanData) (entry at : ℕ) (old new : List Segment) (s : Segment) → old ≡ [] → new ≡ old ++ s ∷ [] → s.at ≡ at → s.bytes.items ≡ boot_bytes_of plan entry
    → image_at at (map segment_data new) ≡ boot_image_of plan entry at
boot_image-is plan entry at old new s none pushed there code =
    ap (λ (l : List Segment). image_at at (map segment_data l)) (pushed ∙ ap (λ (l : List Segment). l ++ s ∷ []) none)
    ∙ ap (λ (x : ℕ). image_at at (record { at = x; bytes = s.bytes.items } ∷ [])) there
    ∙ ap (λ (bs : List ℕ). image_at at (record { at = at; bytes = bs } ∷ [])) code
