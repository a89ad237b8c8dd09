-- The memory of a machine under a plan.
use Rattle.std.specs.Prelude.{◌≡◌, ◌↔◌, ℕ, true, Some, if◌then◌else◌, List, None}
use Rattle.std.specs.FinMap as map
use Rattle.csa_chain.specs.MemoryBytes.{Memory, is_mapped}
use Rattle.elf_image.specs.Images.{ImageData, image_byte}
use Rattle.tcd_base.specs.Ranges.{IsInOneRange, is_address_in_ranges}
use Rattle.tcd_plan.specs.PlanData.{PlanData}
use Rattle.tcd_plan.specs.MappedAddresses.{IsMappedBy}
use Rattle.tcd_base.specs.declared.range.Range.{Range}

-- the memory of a machine under a plan has each rom byte of the plan that a segment of the image
-- holds
abbrev pub HoldsRom : ImageData → PlanData → Memory → Type 0
HoldsRom image plan mem = (x b : ℕ) → IsInOneRange x 1 plan.rom → image_byte image x ≡ Some b → map.get mem x ≡ Some b

-- the mapped addresses are those of the plan
abbrev pub IsPlanMemory : PlanData → Memory → Type 0
IsPlanMemory plan mem = (x : ℕ) → (is_mapped mem x ≡ true) ↔ IsMappedBy plan x

-- the ranges are mapped, to zeros, and nothing else
abbrev pub IsMemoryOfZeros : List Range → Memory → Type 0
IsMemoryOfZeros ranges m = (q : ℕ) → map.get m q ≡ (if is_address_in_ranges ranges q then Some 0 else None)
