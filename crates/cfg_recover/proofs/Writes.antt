-- A store in one ram range or one peripheral range keeps rom, the save areas and what is mapped.
use Rattle.std.proofs.Common.{◌≡◌, ℕ, ◌+◌, ◌-◌, ◌<◌, ◌≤◌, ◌⊎◌, inl, inr, true, List, [], ◌∷◌, ◌++◌, map, sym, ap, ◌∙◌, subst, arith, append_assoc}
use Rattle.std.proofs.lemmas.Bool.{cases_lt}
use Rattle.std.specs.FinMap as memory_map
use Rattle.csa_chain.specs.MemoryBytes.{Memory, with_bytes}
use Rattle.csa_chain.proofs.MemoryLaws.{get-with_bytes_other, is_mapped-with_bytes}
use Rattle.elf_image.specs.Images.{ImageData}
use Rattle.tcd_base.specs.declared.range.Range.{Range}
use Rattle.tcd_plan.specs.declared.plans.Device.{Device}
use Rattle.tcd_plan.specs.PlanData.{PlanData, IsPlan, are_all_ranges_disjoint, areas_range}
use Rattle.tcd_base.specs.Ranges.{IsWithinRange, IsInOneRange}
use Rattle.tcd_plan.specs.MappedAddresses.{IsInAreas, IsStoreInRange}
use Rattle.tc_mem.specs.PlanMemory.{HoldsRom, IsPlanMemory}
use Rattle.store_ranges.proofs.Sound.{in_ranges}
use Rattle.tcd_base.proofs.RangeLaws.{in_one, IsInOne-front, IsInOne-behind}
use Rattle.tcd_plan.proofs.ApartLaws.{all_apart-before}

-- ---- ranges
module _ (plan : PlanData) (ok : IsPlan plan) where
  abbrev devices : List Range
  devices = map (λ (d : Device). d.range) plan.devices

  -- no address at which a store is allowed is in rom
  unwritten_rom : (y : ℕ) → IsInOneRange y 1 plan.ram ⊎ IsInOneRange y 1 devices → IsInOneRange y 1 plan.rom → ⊥
  unwritten_rom y at rom =
      let apart : are_all_ranges_disjoint (plan.rom ++ (plan.ram ++ (devices ++ areas_range plan ∷ []))) ≡ true =
      sym (ap are_all_ranges_disjoint (append_assoc (plan.rom ++ plan.ram) devices (areas_range plan ∷ []) ∙ append_assoc plan.rom plan.ram (devices ++ areas_range plan ∷ []))) ∙ ok.apart
      in
      all_apart-before y plan.rom (plan.ram ++ (devices ++ areas_range plan ∷ [])) apart rom
      (elim at [
        | inl ram ↦ IsInOne-front y 1 plan.ram (devices ++ areas_range plan ∷ []) ram
        | inr device ↦ IsInOne-behind y 1 plan.ram (devices ++ areas_range plan ∷ []) (IsInOne-front y 1 devices (areas_range plan ∷ []) device)
      ])

  -- nor in the save areas
  unwritten_areas : (y : ℕ) → IsInOneRange y 1 plan.ram ⊎ IsInOneRange y 1 devices → IsInAreas plan y → ⊥
  unwritten_areas y at inside =
      let within : IsWithinRange y 1 (areas_range plan) = (inside.0, (let lt = inside.1 in omega arith)) in
      all_apart-before y (plan.rom ++ plan.ram ++ devices) (areas_range plan ∷ []) ok.apart
      (elim at [
        | inl ram ↦ IsInOne-front y 1 (plan.rom ++ plan.ram) devices (IsInOne-behind y 1 plan.rom plan.ram ram)
        | inr device ↦ IsInOne-behind y 1 (plan.rom ++ plan.ram) devices device
      ])
      (inl within)

  -- each address of a store is one at which a store is allowed
  stored_at : (x n y : ℕ) → IsStoreInRange plan (x, n) → x ≤ y → y < x + n → IsInOneRange y 1 plan.ram ⊎ IsInOneRange y 1 devices
  stored_at x n y range low high =
      let is : x + (y - x) ≡ y = omega arith in
      elim range.1 [
        | inl ram ↦ inl (subst (λ z. IsInOneRange z 1 plan.ram) is (in_one x n (y - x) plan.ram (omega arith) ram))
        | inr device ↦ inr (subst (λ z. IsInOneRange z 1 devices) is (in_one x n (y - x) devices (omega arith) (in_ranges x n plan.devices device)))
      ]

  outside : (x n y : ℕ) → IsStoreInRange plan (x, n) → (IsInOneRange y 1 plan.ram ⊎ IsInOneRange y 1 devices → ⊥) → (y < x) ⊎ (x + n ≤ y)
  outside x n y range not_there =
      elim (cases_lt y x) [
        | inl low ↦ inl low
        | inr from ↦ elim (cases_lt y (x + n)) [ inl to ↦ absurd (not_there (stored_at x n y range from to)) | inr high ↦ inr high ]
      ]

  module _ (image : ImageData) (mem : Memory) (x w n : ℕ) (range : IsStoreInRange plan (x, n)) where
    pub store_keeps_areas : (y : ℕ) → IsInAreas plan y → memory_map.get (with_bytes mem x w n) y ≡ memory_map.get mem y
    store_keeps_areas y at = get-with_bytes_other mem x w n y range.0 (outside x n y range (λ there. unwritten_areas y there at))

    pub store_keeps_rom : HoldsRom image plan mem → HoldsRom image plan (with_bytes mem x w n)
    store_keeps_rom rom y c at is = get-with_bytes_other mem x w n y range.0 (outside x n y range (λ there. unwritten_rom y there at)) ∙ rom y c at is

    pub store_keeps_mapped : IsPlanMemory plan mem → IsPlanMemory plan (with_bytes mem x w n)
    store_keeps_mapped memory y = (λ t. (memory y).0 (sym (is_mapped-with_bytes mem x w n y) ∙ t), λ i. is_mapped-with_bytes mem x w n y ∙ (memory y).1 i)
