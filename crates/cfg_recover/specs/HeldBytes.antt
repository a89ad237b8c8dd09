-- The bytes that an image holds at an address.
use Rattle.std.specs.Prelude.{◌≡◌, ◌≤◌, ℕ, zero, suc, ◌+◌, ◌-◌, List, ◌∷◌, slice_get, Option, Some, None, option_and_then, []}
use Rattle.std.specs.Option.{option_map}
use Rattle.elf_image.specs.Images.{ImageData, SegmentData, image_byte}
use Rattle.tcd_plan.specs.PlanData.{PlanData}
use Rattle.tcd_base.specs.Ranges.{IsInOneRange}

-- the image's n bytes from x on, if segments hold them all
abbrev pub image_bytes_at : ImageData → ℕ → ℕ → Option (List ℕ)
image_bytes_at image x zero = Some []
image_bytes_at image x (suc n) = option_and_then (λ b. option_map (λ bs. b ∷ bs) (image_bytes_at image (x + 1) n)) (image_byte image x)

-- bytes of code that an image holds at an address, within one segment: the segment has these bytes
-- from the address x on
abbrev pub SegmentHoldsBytes : SegmentData → ℕ → List ℕ → Type 0
SegmentHoldsBytes s x [] = Unit {0}
SegmentHoldsBytes s x (b ∷ bs) = (s.at ≤ x) × (slice_get s.bytes (x - s.at) ≡ Some b) × SegmentHoldsBytes s (x + 1) bs

-- the segment has this byte of code at the address x
abbrev pub SegmentHoldsByte : SegmentData → ℕ → ℕ → Type 0
SegmentHoldsByte s x b = SegmentHoldsBytes s x (b ∷ [])

-- the answer is the image's n bytes at x, if one rom range has them and segments hold them; else
-- none
abbrev pub FindsRomBytes : ImageData → PlanData → ℕ → ℕ → Option (List ℕ) → Type 0
FindsRomBytes image plan x n (Some bytes) = IsInOneRange x n plan.rom × (image_bytes_at image x n ≡ Some bytes)
FindsRomBytes image plan x n None = IsInOneRange x n plan.rom → image_bytes_at image x n ≡ None
