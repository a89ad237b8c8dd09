-- What is in the memory of a start state, by the plan.
use Rattle.std.proofs.Common.{◌≡◌, ℕ, zero, suc, ◌+◌, ◌*◌, ◌^◌, ◌<◌, ◌≤◌, ◌⊎◌, inl, inr, Bool, true, false, cond, [], ◌∷◌, ◌++◌, map, Some, None, refl, sym, ap, subst, ◌∙◌, arith, nat_lt, append_assoc, lit<, lit≤}
use Rattle.std.proofs.lemmas.Bool.{cases_eq, cases_lt}
use Rattle.std.specs.Prelude.{is_some}
use Rattle.std.specs.FinMap as finite
use Rattle.csa_chain.specs.MemoryBytes.{Memory, is_mapped, word_at, with_words, HasOnlyBytes}
use Rattle.csa_chain.specs.Chain.{link_address, is_area_mapped, area_word}
use Rattle.csa_chain.proofs.ChainLaws.{area_word-written, SameArea-written, area_word_same, are_mapped_from}
use Rattle.elf_image.specs.Images.{ImageData, image_byte}
use Rattle.tcd_plan.specs.PlanData.{PlanData, IsPlan, areas_range, are_all_ranges_disjoint}
use Rattle.tc_mem.specs.PlanMemory.{IsMemoryOfZeros, HoldsRom, IsPlanMemory}
use Rattle.tcd_base.specs.Ranges.{is_address_in_ranges, IsInOneRange}
use Rattle.tc_machine.specs.Starting.{AreAreasLinked, with_image_in_ranges, next_start_link, with_area_links, start_memory_ranges, IsFilledStartMemory}
use Rattle.tc_machine.proofs.Filled.{images_put, images_mapped, images_none, images_outside, links_mapped, links_bytes, links_outside}
use Rattle.tc_machine.proofs.PlanLaws.{link_address-area, link_lt}
use Rattle.tc_machine.proofs.Zeros.{is_in-one, zero_at}
use Rattle.tcd_plan.specs.MappedAddresses.{IsInAreas, IsMappedBy}
use Rattle.tcd_plan.proofs.CutLaws.{IsInOne-parts}
use Rattle.tc_machine.specs.PlanAreas.{first_link}
use Rattle.tcd_base.proofs.RangeLaws.{IsInOne-front, IsInOne-behind}
use Rattle.tcd_plan.proofs.ApartLaws.{all_apart-before, rom_apart}

word_of_zeros : (m : Memory) (y : ℕ) → ((t : ℕ) → t < 4 → finite.get m (y + t) ≡ Some 0) → word_at m y ≡ 0
unfolding word_at
word_of_zeros m y zeros =
    let e0 : finite.get m y ≡ Some 0 = ap (finite.get m) (let e : y ≡ y + 0 = omega arith in e) ∙ zeros 0 (omega arith) in
    rw (e0, zeros 1 (omega arith), zeros 2 (omega arith), zeros 3 (omega arith)) refl

-- a byte of word w of area i isn't a byte of word 0 of area j
not_first : (at i j w t y : ℕ) → 0 < w → w < 16 → t < 4 → y ≡ at + 64 * i + 4 * w + t → (y < at + 64 * j) ⊎ (at + 64 * j + 4 ≤ y)
not_first at i j w t y some few small is =
    elim (cases_lt y (at + 64 * j)) [ inl below ↦ inl below | inr above ↦ inr (omega arith) ]

next_lt : (b : Bool) (x : ℕ) → x < 2 ^ 32 → cond b x 0 < 2 ^ 32
next_lt true x h = h
next_lt false x h = omega arith

-- what the memory of a start state in zeros holds
pub record IsStartMemory (image : ImageData) (plan : PlanData) (mem : Memory) : Type 0 where
  pub memory : IsPlanMemory plan mem
  pub holds : HoldsRom image plan mem
  pub linked : AreAreasLinked plan mem
  pub bytes : HasOnlyBytes mem
  pub ram : (x : ℕ) → IsInOneRange x 1 plan.ram → finite.get mem x ≡ Some 0
  pub rom : (x : ℕ) → IsInOneRange x 1 plan.rom → image_byte image x ≡ None → finite.get mem x ≡ Some 0
  pub words : (i k : ℕ) → i < plan.areas → 0 < k → k < 16 → area_word mem (first_link plan + i) k ≡ 0

mapped_true : (t : Bool) → is_some {T = ℕ} (cond t (Some 0) None) ≡ true → t ≡ true
mapped_true true e = refl
mapped_true false e = cc

module _ (image : ImageData) (plan : PlanData) (ok : IsPlan plan) (zeros : Memory) (are_zeros : IsMemoryOfZeros (start_memory_ranges plan.rom plan.ram plan.csa_at plan.areas) zeros) where
  -- ---- zeros
  rom_in : (x : ℕ) → IsInOneRange x 1 plan.rom → IsInOneRange x 1 (start_memory_ranges plan.rom plan.ram plan.csa_at plan.areas)
  rom_in x h = IsInOne-front x 1 (plan.rom ++ plan.ram) (areas_range plan ∷ []) (IsInOne-front x 1 plan.rom plan.ram h)

  ram_in : (x : ℕ) → IsInOneRange x 1 plan.ram → IsInOneRange x 1 (start_memory_ranges plan.rom plan.ram plan.csa_at plan.areas)
  ram_in x h = IsInOne-front x 1 (plan.rom ++ plan.ram) (areas_range plan ∷ []) (IsInOne-behind x 1 plan.rom plan.ram h)

  areas_in : (x : ℕ) → IsInAreas plan x → IsInOneRange x 1 (start_memory_ranges plan.rom plan.ram plan.csa_at plan.areas)
  areas_in x h = IsInOne-behind x 1 (plan.rom ++ plan.ram) (areas_range plan ∷ []) (inl (h.0, (let lt = h.1 in omega arith)))

  zero_in : (x : ℕ) → IsInOneRange x 1 (start_memory_ranges plan.rom plan.ram plan.csa_at plan.areas) → finite.get zeros x ≡ Some 0
  zero_in x h = zero_at (start_memory_ranges plan.rom plan.ram plan.csa_at plan.areas) zeros x are_zeros h

  -- ---- ranges that are apart
  areas_within : (x : ℕ) → IsInAreas plan x → IsInOneRange x 1 (areas_range plan ∷ [])
  areas_within x h = inl (h.0, (let lt = h.1 in omega arith))

  ram_apart : (x : ℕ) → IsInOneRange x 1 plan.ram → IsInAreas plan x → ⊥
  ram_apart x ram at =
      all_apart-before x (plan.rom ++ plan.ram ++ map (λ d. d.range) plan.devices) (areas_range plan ∷ []) ok.apart
      (IsInOne-front x 1 (plan.rom ++ plan.ram) (map (λ d. d.range) plan.devices) (IsInOne-behind x 1 plan.rom plan.ram ram)) (areas_within x at)

  rom_and_ram : (x : ℕ) → IsInOneRange x 1 plan.rom → IsInOneRange x 1 plan.ram → ⊥
  rom_and_ram x rom ram =
      let rest = map (λ d. d.range) plan.devices ++ areas_range plan ∷ [] in
      let e : are_all_ranges_disjoint (plan.rom ++ (plan.ram ++ rest)) ≡ true =
      ap are_all_ranges_disjoint (sym (append_assoc plan.rom plan.ram rest) ∙ sym (append_assoc (plan.rom ++ plan.ram) (map (λ d. d.range) plan.devices) (areas_range plan ∷ []))) ∙ ok.apart in
      all_apart-before x plan.rom (plan.ram ++ rest) e rom (IsInOne-front x 1 plan.ram rest ram)

  out_of_areas : (x : ℕ) → (IsInAreas plan x → ⊥) → (j : ℕ) → j < plan.areas → (x < plan.csa_at + 64 * j) ⊎ (plan.csa_at + 64 * j + 4 ≤ x)
  out_of_areas x out j lt =
      elim (cases_lt x plan.csa_at) [
        | inl below ↦ inl (omega arith)
        | inr above ↦ elim (cases_lt x (plan.csa_at + 64 * plan.areas)) [
          | inl inside ↦ absurd (out (above, inside))
          | inr beyond ↦ inr (omega arith)
        ]
      ]

  -- ---- the memory
  mapped : (k x : ℕ) → is_mapped (with_area_links plan.csa_at (first_link plan) plan.areas (with_image_in_ranges image zeros plan.rom) k) x ≡ is_mapped zeros x
  mapped k x = links_mapped plan.csa_at (first_link plan) plan.areas (with_image_in_ranges image zeros plan.rom) k x ∙ images_mapped image zeros plan.rom x

  get_out : (x : ℕ) → (IsInAreas plan x → ⊥) → finite.get (with_area_links plan.csa_at (first_link plan) plan.areas (with_image_in_ranges image zeros plan.rom) plan.areas) x ≡ finite.get (with_image_in_ranges image zeros plan.rom) x
  get_out x out = links_outside plan.csa_at (first_link plan) plan.areas (with_image_in_ranges image zeros plan.rom) plan.areas x (out_of_areas x out)

  area_there : (k i : ℕ) → i < plan.areas → is_area_mapped (with_area_links plan.csa_at (first_link plan) plan.areas (with_image_in_ranges image zeros plan.rom) k) (first_link plan + i) ≡ true
  area_there k i lt =
      are_mapped_from _ _ 64 (λ j h. mapped k _ ∙ ap is_some (zero_in _ (areas_in _ (let at = link_address-area ok i lt in (omega arith, omega arith)))))

  linked_at : (k i : ℕ) → i < k → k ≤ plan.areas → area_word (with_area_links plan.csa_at (first_link plan) plan.areas (with_image_in_ranges image zeros plan.rom) k) (first_link plan + i) 0 ≡ next_start_link (first_link plan) plan.areas i
  unfolding with_area_links
  linked_at zero i lt most = absurd (omega arith)
  linked_at (suc k) i lt most =
      let before = with_area_links plan.csa_at (first_link plan) plan.areas (with_image_in_ranges image zeros plan.rom) k in
      let ws = next_start_link (first_link plan) plan.areas k ∷ [] in
      let below : k < plan.areas = omega arith in
      let small : first_link plan + (k + 1) < 2 ^ 32 = (let s = link_lt ok k below in omega arith) in
      ap (λ a. area_word (with_words before a ws) (first_link plan + i) 0) (sym (link_address-area ok k below))
      ∙ elim (cases_eq i k) [
        | inl same ↦
            ap (λ j. area_word (with_words before (link_address (first_link plan + k)) ws) (first_link plan + j) 0) same
            ∙ area_word-written before (first_link plan + k) ws 0 (lit≤ tt) (area_there k k below) (lit< tt) (next_lt (nat_lt (k + 1) plan.areas) (first_link plan + (k + 1)) small)
            ∙ ap (next_start_link (first_link plan) plan.areas) (sym same)
        | inr apart ↦
            area_word_same (SameArea-written before (first_link plan + k) (first_link plan + i) ws (lit≤ tt) (omega arith)) 0 (lit< tt)
            ∙ linked_at k i (omega arith) (omega arith)
      ]

  word_zero : (i w : ℕ) → i < plan.areas → 0 < w → w < 16 → area_word (with_area_links plan.csa_at (first_link plan) plan.areas (with_image_in_ranges image zeros plan.rom) plan.areas) (first_link plan + i) w ≡ 0
  word_zero i w lt some few =
      let at = link_address-area ok i lt in
      word_of_zeros _ _ (λ t small.
      let y = link_address (first_link plan + i) + 4 * w + t in
      let inside : IsInAreas plan y = (omega arith, omega arith) in
      links_outside plan.csa_at (first_link plan) plan.areas (with_image_in_ranges image zeros plan.rom) plan.areas y (λ j h. not_first plan.csa_at i j w t y some few small (omega arith))
      ∙ images_outside image zeros plan.rom y (λ rom. rom_apart ok y rom inside) ∙ zero_in y (areas_in y inside))

  is_mapped_by : (x : ℕ) → IsInOneRange x 1 (start_memory_ranges plan.rom plan.ram plan.csa_at plan.areas) → IsMappedBy plan x
  is_mapped_by x h =
      elim (IsInOne-parts x 1 (plan.rom ++ plan.ram) (areas_range plan ∷ []) h) [
        | inl front ↦ elim (IsInOne-parts x 1 plan.rom plan.ram front) [ inl rom ↦ inl rom | inr ram ↦ inr (inl ram) ]
        | inr (inl at) ↦ inr (inr (at.0, (let le = at.1 in omega arith)))
        | inr (inr gone) ↦ absurd gone
      ]

  is_in_ranges : (x : ℕ) → IsMappedBy plan x → IsInOneRange x 1 (start_memory_ranges plan.rom plan.ram plan.csa_at plan.areas)
  is_in_ranges x (inl rom) = rom_in x rom
  is_in_ranges x (inr (inl ram)) = ram_in x ram
  is_in_ranges x (inr (inr at)) = areas_in x at

  pub start_memory : HasOnlyBytes (with_image_in_ranges image zeros plan.rom) → IsStartMemory image plan (with_area_links plan.csa_at (first_link plan) plan.areas (with_image_in_ranges image zeros plan.rom) plan.areas)
  start_memory bytes = record {
    memory = λ x. (
      λ h. is_mapped_by x (is_in-one x (start_memory_ranges plan.rom plan.ram plan.csa_at plan.areas)
          (mapped_true (is_address_in_ranges (start_memory_ranges plan.rom plan.ram plan.csa_at plan.areas) x) (ap is_some (sym (are_zeros x)) ∙ sym (mapped plan.areas x) ∙ h))),
      λ h. mapped plan.areas x ∙ ap is_some (zero_in x (is_in_ranges x h)),
    );
    holds = λ x b rom held. get_out x (rom_apart ok x rom) ∙ images_put image zeros plan.rom x b rom (ap is_some (zero_in x (rom_in x rom))) held;
    linked = λ i lt. linked_at plan.areas i lt (omega arith);
    bytes = links_bytes plan.csa_at (first_link plan) plan.areas (with_image_in_ranges image zeros plan.rom) bytes plan.areas;
    ram = λ x ram. get_out x (ram_apart x ram) ∙ images_outside image zeros plan.rom x (λ rom. rom_and_ram x rom ram) ∙ zero_in x (ram_in x ram);
    rom = λ x rom none. get_out x (rom_apart ok x rom) ∙ images_none image zeros plan.rom x none ∙ zero_in x (rom_in x rom);
    words = word_zero;
  }

-- the memory that is filled so
pub filled_memory : (image : ImageData) (plan : PlanData) (mem : Memory) → IsPlan plan → IsFilledStartMemory image plan.rom plan.ram plan.csa_at plan.areas mem → IsStartMemory image plan mem
filled_memory image plan mem ok f = subst (IsStartMemory image plan) (sym f.is) (start_memory image plan ok f.zeros f.are_zeros f.bytes)
