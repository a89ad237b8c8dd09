-- The memory in which a task's view starts at the task's first turn: that of the machine without
-- ram, with the view's routine and all areas free.
use Rattle.std.proofs.Common.{◌≡◌, ℕ, zero, suc, ◌+◌, ◌*◌, ◌^◌, ◌<◌, ◌≤◌, ◌⊎◌, inl, inr, Bool, true, false, not, cond, [], ◌∷◌, ◌++◌, map, Option, Some, None, refl, sym, ap, ◌∙◌, arith, nat_lt, append_assoc, lit<, lit≤}
use Rattle.std.proofs.lemmas.Bool.{cases_eq, cases_lt, cases_Bool, false≢true, both_ways}
use Rattle.std.specs.Prelude.{is_some}
use Rattle.std.specs.FinMap as finite
use Rattle.csa_chain.specs.MemoryBytes.{Memory, is_mapped, with_words, HasOnlyBytes}
use Rattle.csa_chain.specs.Chain.{link_address, is_area_mapped, area_word}
use Rattle.csa_chain.proofs.ChainLaws.{area_word-written, SameArea-written, area_word_same, are_mapped_from}
use Rattle.elf_image.specs.Images.{ImageData, image_byte}
use Rattle.tcd_plan.specs.PlanData.{PlanData, IsPlan, areas_range, are_all_ranges_disjoint}
use Rattle.tcd_base.specs.Ranges.{is_address_in_ranges, IsInOneRange}
use Rattle.tcd_plan.specs.MappedAddresses.{IsInAreas, IsMappedBy}
use Rattle.tc_machine.specs.PlanAreas.{first_link}
use Rattle.tc_machine.specs.Starting.{AreAreasLinked, with_image_in_ranges, next_start_link, with_area_links}
use Rattle.tc_mem.specs.PlanMemory.{HoldsRom, IsPlanMemory}
use Rattle.tc_machine.proofs.Filled.{images_put, images_mapped, images_none, images_outside, links_mapped, links_bytes, links_outside}
use Rattle.tc_machine.proofs.PlanLaws.{link_address-area, link_lt}
use Rattle.tcd_base.proofs.RangeLaws.{IsInOne-front, IsInOne-behind}
use Rattle.tcd_plan.proofs.ApartLaws.{all_apart-before, rom_apart}
use Rattle.tc_machine.proofs.Zeros.{is_in-one, is_in-from}
use Rattle.task_chains.specs.Tasks.{TasksData}
use Rattle.task_chains.specs.SwitchRoutine.{routine_size}
use Rattle.task_chains.specs.Views.{view_plan_of}

-- the address is outside of the routine
abbrev pub IsOutside : TasksData → ℕ → Type 0
IsOutside tasks x = (x < tasks.switch) ⊎ (tasks.switch + routine_size ≤ x)

-- rom is the same except for the routine
abbrev pub SameRom : PlanData → TasksData → Memory → Memory → Type 0
SameRom plan tasks mem view = (x : ℕ) → IsInOneRange x 1 plan.rom → IsOutside tasks x → finite.get view x ≡ finite.get mem x

pub record IsViewStart (view : ImageData) (plan : PlanData) (tasks : TasksData) (u : ℕ) (mem start : Memory) : Type 0 where
  pub memory : IsPlanMemory (view_plan_of plan tasks u) start
  pub rom : HoldsRom view (view_plan_of plan tasks u) start
  pub linked : AreAreasLinked (view_plan_of plan tasks u) start
  pub bytes : HasOnlyBytes start
  pub same : SameRom plan tasks mem start

next_small : (b : Bool) (x : ℕ) → x < 2 ^ 32 → cond b x 0 < 2 ^ 32
next_small true x h = h
next_small false x h = omega arith

-- ---- links in any memory that has the areas
module _ {plan : PlanData} (ok : IsPlan plan) (mem : Memory) (areas : (x : ℕ) → IsInAreas plan x → is_mapped mem x ≡ true) where
  area_there : (k i : ℕ) → i < plan.areas → is_area_mapped (with_area_links plan.csa_at (first_link plan) plan.areas mem k) (first_link plan + i) ≡ true
  area_there k i lt =
      are_mapped_from _ _ 64 (λ j h. links_mapped plan.csa_at (first_link plan) plan.areas mem k _ ∙ areas _ (let at = link_address-area ok i lt in (omega arith, omega arith)))

  linked_at : (k i : ℕ) → i < k → k ≤ plan.areas → area_word (with_area_links plan.csa_at (first_link plan) plan.areas mem k) (first_link plan + i) 0 ≡ next_start_link (first_link plan) plan.areas i
  unfolding with_area_links
  linked_at zero i lt most = absurd (omega arith)
  linked_at (suc k) i lt most =
      let before = with_area_links plan.csa_at (first_link plan) plan.areas mem k in
      let ws = next_start_link (first_link plan) plan.areas k ∷ [] in
      let below : k < plan.areas = omega arith in
      let small : first_link plan + (k + 1) < 2 ^ 32 = (let s = link_lt ok k below in omega arith) in
      ap (λ a. area_word (with_words before a ws) (first_link plan + i) 0) (sym (link_address-area ok k below))
      ∙ elim (cases_eq i k) [
        | inl same ↦
            ap (λ j. area_word (with_words before (link_address (first_link plan + k)) ws) (first_link plan + j) 0) same
            ∙ area_word-written before (first_link plan + k) ws 0 (lit≤ tt) (area_there k k below) (lit< tt) (next_small (nat_lt (k + 1) plan.areas) (first_link plan + (k + 1)) small)
            ∙ ap (next_start_link (first_link plan) plan.areas) (sym same)
        | inr apart ↦
            area_word_same (SameArea-written before (first_link plan + k) (first_link plan + i) ws (lit≤ tt) (omega arith)) 0 (lit< tt)
            ∙ linked_at k i (omega arith) (omega arith)
      ]

-- ---- the memory
module _ {plan : PlanData} (ok : IsPlan plan) (image view : ImageData) (tasks : TasksData) (u : ℕ) (mem : Memory) (memory : IsPlanMemory plan mem) (rom : HoldsRom image plan mem) (bytes : HasOnlyBytes mem)
    (outside : (x : ℕ) → IsOutside tasks x → image_byte view x ≡ image_byte image x) (small : (x b : ℕ) → IsInOneRange x 1 plan.rom → image_byte view x ≡ Some b → b < 2 ^ 8) where
  abbrev keeps : ℕ → Bool
  keeps x = not (is_address_in_ranges plan.ram x)

  abbrev base : Memory
  base = finite.retain_keys mem keeps

  abbrev pub view_memory : Memory
  view_memory = with_area_links plan.csa_at (first_link plan) plan.areas (with_image_in_ranges view (finite.retain_keys mem keeps) plan.rom) plan.areas

  base_get : (x : ℕ) → finite.get base x ≡ cond (keeps x) (finite.get mem x) None
  base_get x = finite.get-retain_keys mem keeps x (λ y e. ap keeps (sym (finite.nat_cmp-IsAntisymmetric x y e)))

  not_ram : (x : ℕ) → (IsInOneRange x 1 plan.ram → ⊥) → finite.get base x ≡ finite.get mem x
  not_ram x none =
      elim (cases_Bool (is_address_in_ranges plan.ram x)) [
        | inl there ↦ absurd (none (is_in-one x plan.ram there))
        | inr gone ↦ base_get x ∙ ap (λ t. cond (not t) (finite.get mem x) None) gone
      ]

  in_ram : (x : ℕ) → IsInOneRange x 1 plan.ram → finite.get base x ≡ None
  in_ram x there = base_get x ∙ ap (λ t. cond (not t) (finite.get mem x) None) (is_in-from x plan.ram there)

  ram_apart : (x : ℕ) → IsInOneRange x 1 plan.ram → IsInAreas plan x → ⊥
  ram_apart x ram at =
      all_apart-before x (plan.rom ++ plan.ram ++ map (λ d. d.range) plan.devices) (areas_range plan ∷ []) ok.apart
      (IsInOne-front x 1 (plan.rom ++ plan.ram) (map (λ d. d.range) plan.devices) (IsInOne-behind x 1 plan.rom plan.ram ram)) (inl (at.0, (let lt = at.1 in omega arith)))

  rom_and_ram : (x : ℕ) → IsInOneRange x 1 plan.rom → IsInOneRange x 1 plan.ram → ⊥
  rom_and_ram x in_rom ram =
      let rest = map (λ d. d.range) plan.devices ++ areas_range plan ∷ [] in
      let e : are_all_ranges_disjoint (plan.rom ++ (plan.ram ++ rest)) ≡ true =
      ap are_all_ranges_disjoint (sym (append_assoc plan.rom plan.ram rest) ∙ sym (append_assoc (plan.rom ++ plan.ram) (map (λ d. d.range) plan.devices) (areas_range plan ∷ []))) ∙ ok.apart in
      all_apart-before x plan.rom (plan.ram ++ rest) e in_rom (IsInOne-front x 1 plan.ram rest ram)

  out_of_areas : (x : ℕ) → (IsInAreas plan x → ⊥) → (j : ℕ) → j < plan.areas → (x < plan.csa_at + 64 * j) ⊎ (plan.csa_at + 64 * j + 4 ≤ x)
  out_of_areas x out j lt =
      elim (cases_lt x plan.csa_at) [
        | inl below ↦ inl (omega arith)
        | inr above ↦ elim (cases_lt x (plan.csa_at + 64 * plan.areas)) [
          | inl inside ↦ absurd (out (above, inside))
          | inr beyond ↦ inr (omega arith)
        ]
      ]

  get_out : (x : ℕ) → (IsInAreas plan x → ⊥) → finite.get view_memory x ≡ finite.get (with_image_in_ranges view base plan.rom) x
  get_out x out = links_outside plan.csa_at (first_link plan) plan.areas (with_image_in_ranges view base plan.rom) plan.areas x (out_of_areas x out)

  mapped : (x : ℕ) → is_mapped view_memory x ≡ is_mapped base x
  mapped x = links_mapped plan.csa_at (first_link plan) plan.areas (with_image_in_ranges view base plan.rom) plan.areas x ∙ images_mapped view base plan.rom x

  rom_there : (x : ℕ) → IsInOneRange x 1 plan.rom → is_mapped base x ≡ true
  rom_there x in_rom = ap is_some (not_ram x (rom_and_ram x in_rom)) ∙ (memory x).1 (inl in_rom)

  areas_there : (x : ℕ) → IsInAreas plan x → is_mapped base x ≡ true
  areas_there x at = ap is_some (not_ram x (λ ram. ram_apart x ram at)) ∙ (memory x).1 (inr (inr at))

  -- a byte of rom, if the view's image has one there, and if it has none
  rom_held : (x b : ℕ) → IsInOneRange x 1 plan.rom → image_byte view x ≡ Some b → finite.get view_memory x ≡ Some b
  rom_held x b in_rom held = get_out x (rom_apart ok x in_rom) ∙ images_put view base plan.rom x b in_rom (rom_there x in_rom) held

  same_rom : SameRom plan tasks mem view_memory
  same_rom x in_rom out = by_byte (image_byte view x) refl
    where
      by_byte : (o : Option ℕ) → image_byte view x ≡ o → finite.get view_memory x ≡ finite.get mem x
      by_byte None e = get_out x (rom_apart ok x in_rom) ∙ images_none view base plan.rom x e ∙ not_ram x (rom_and_ram x in_rom)
      by_byte (Some b) e = rom_held x b in_rom e ∙ sym (rom x b in_rom (sym (outside x out) ∙ e))

  -- bytes stay bytes
  base_bytes : HasOnlyBytes base
  base_bytes x b at =
      elim (cases_Bool (is_address_in_ranges plan.ram x)) [
        | inl there ↦ absurd (none_some b (sym (in_ram x (is_in-one x plan.ram there)) ∙ at))
        | inr gone ↦ bytes x b (sym (base_get x ∙ ap (λ t. cond (not t) (finite.get mem x) None) gone) ∙ at)
      ]
    where
      none_some : (b : ℕ) → None ≡ Some b → ⊥
      none_some b e = cc

  image_bytes : HasOnlyBytes (with_image_in_ranges view base plan.rom)
  image_bytes x b at =
      elim (cases_Bool (is_address_in_ranges plan.rom x)) [
        | inl there ↦ by_byte (is_in-one x plan.rom there) (image_byte view x) refl
        | inr gone ↦ base_bytes x b (sym (images_outside view base plan.rom x (λ h. both_ways (is_address_in_ranges plan.rom x) gone (is_in-from x plan.rom h))) ∙ at)
      ]
    where
      by_byte : IsInOneRange x 1 plan.rom → (o : Option ℕ) → image_byte view x ≡ o → b < 2 ^ 8
      by_byte in_rom None e = base_bytes x b (sym (images_none view base plan.rom x e) ∙ at)
      by_byte in_rom (Some c) e =
          let same : Some c ≡ Some b = sym (images_put view base plan.rom x c in_rom (rom_there x in_rom) e) ∙ at in
          let lt = small x c in_rom e in
          let is : c ≡ b = cc in
          omega arith

  mapped_by : (x : ℕ) → is_mapped base x ≡ true → IsMappedBy (view_plan_of plan tasks u) x
  mapped_by x here =
      elim (cases_Bool (is_address_in_ranges plan.ram x)) [
        | inl there ↦ absurd (false≢true (sym (ap is_some (in_ram x (is_in-one x plan.ram there))) ∙ here))
        | inr gone ↦
            elim ((memory x).0 (sym (ap is_some (base_get x ∙ ap (λ t. cond (not t) (finite.get mem x) None) gone)) ∙ here)) [
              | inl in_rom ↦ inl in_rom
              | inr (inl ram) ↦ absurd (both_ways (is_address_in_ranges plan.ram x) gone (is_in-from x plan.ram ram))
              | inr (inr at) ↦ inr (inr at)
            ]
      ]

  from_mapped : (x : ℕ) → IsMappedBy (view_plan_of plan tasks u) x → is_mapped base x ≡ true
  from_mapped x (inl in_rom) = rom_there x in_rom
  from_mapped x (inr (inl none)) = absurd none
  from_mapped x (inr (inr at)) = areas_there x at

  pub view_starts : IsViewStart view plan tasks u mem view_memory
  view_starts = record {
    memory = λ x. (λ here. mapped_by x (sym (mapped x) ∙ here), λ by. mapped x ∙ from_mapped x by);
    rom = λ x b in_rom held. rom_held x b in_rom held;
    linked = λ i lt. linked_at ok (with_image_in_ranges view base plan.rom) (λ x at. images_mapped view base plan.rom x ∙ areas_there x at) plan.areas i lt (omega arith);
    bytes = links_bytes plan.csa_at (first_link plan) plan.areas (with_image_in_ranges view base plan.rom) image_bytes plan.areas;
    same = same_rom;
  }
