-- The law of loads.
use Rattle.std.specs.Prelude.{ℕ, Bool}
use Rattle.elf_image.specs.Images.{ImageData, IsImage}
use Rattle.tcd_plan.specs.PlanData.{PlanData, IsPlan}
use Rattle.value_domain.specs.declared.values.Val.{Val}
use Rattle.value_domain.specs.Limits.{Limits}
use Rattle.value_domain.specs.Values.{IsInLattice, IsBelow}
use Rattle.store_ranges.specs.Accesses.{IsAccessSize}
use Rattle.store_ranges.specs.Loads.{load_value_of}

-- loads are monotone: from a value with fewer addresses, the loaded value has fewer words
abbrev pub LoadsAreMonotone : Type 0
LoadsAreMonotone =
    (b : Limits) (image : ImageData) (plan : PlanData) (v w : Val) (size : ℕ) (signed : Bool) → IsPlan plan → IsImage image → IsAccessSize size →
    IsInLattice b v → IsInLattice b w → IsBelow v w → IsBelow (load_value_of b image plan v size signed) (load_value_of b image plan w size signed)
