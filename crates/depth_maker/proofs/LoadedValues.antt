-- A load from the addresses of a value gives a value.
use Rattle.std.proofs.Common.{◌≡◌, ℕ, zero, suc, ◌+◌, ◌-◌, ◌*◌, ◌^◌, ◌<◌, ◌≤◌, inl, inr, Bool, true, false, List, [], ◌∷◌, length, length-append, Option, Some, None, refl, sym, ap, ◌∙◌, subst, arith, eqb}
use Rattle.std.specs.Prelude.{nat_lt, find}
use Rattle.std.specs.List.{list_all, list_any, flat_map}
use Rattle.std.proofs.lemmas.Bool.{cases_Bool, and_parts, ltb-true}
use Rattle.std.proofs.lemmas.Nat.{pow-add}
use Rattle.elf_image.specs.Images.{ImageData, image_byte}
use Rattle.tcd_plan.specs.declared.plans.Device.{Device}
use Rattle.tcd_plan.specs.PlanData.{PlanData, IsPlan, is_plan_device}
use Rattle.csa_chain.specs.MemoryBytes.{load_result}
use Rattle.tc_machine.proofs.ShapeWords.{extended_lt}
use Rattle.value_domain.specs.declared.values.Val.{Val}
use Rattle.value_domain.specs.declared.values.Val.TheVariants.{Set, Span}
use Rattle.value_domain.specs.Limits.{Limits, AreLimits}
use Rattle.value_domain.specs.Sets.{Among}
use Rattle.value_domain.specs.Values.{IsInLattice, multiples_in_range}
use Rattle.value_domain.proofs.CoverLaws.{cover_least, range_among}
use Rattle.value_domain.proofs.ExtentLaws.{among_append}
use Rattle.store_ranges.specs.Accesses.{IsAccessSize}
use Rattle.tcd_base.specs.Ranges.{is_within_range}
use Rattle.store_ranges.specs.Loads.{all_loaded_words, answers_to_load, device_of_loads, loaded_words_at, number_in_image, load_value_of, loaded_word_or_answers, rom_number}
use Rattle.store_ranges.proofs.Covers.{among_map}
use Rattle.store_ranges.proofs.Finds.{found_all}
use Rattle.store_ranges.proofs.LoadLaws.{answers_some, device_bounds}
use Rattle.store_ranges.proofs.Sound.{held_parts, one_more_byte}

extended_small : (size : ℕ) (signed : Bool) (x : ℕ) → IsAccessSize size → x < 2 ^ (8 * size) → load_result signed size x < 2 ^ 32
extended_small size signed x (inl e) lt = subst (λ n. load_result signed n x < 2 ^ 32) (sym e) (at signed (subst (λ n. x < 2 ^ (8 * n)) e lt)) where
  at : (signed : Bool) → x < 2 ^ 8 → load_result signed 1 x < 2 ^ 32
  at true lt = extended_lt x (2 ^ 8) (nat_lt x (2 ^ 7)) lt (omega arith)
  at false lt = omega arith
extended_small size signed x (inr (inl e)) lt = subst (λ n. load_result signed n x < 2 ^ 32) (sym e) (at signed (subst (λ n. x < 2 ^ (8 * n)) e lt)) where
  at : (signed : Bool) → x < 2 ^ 16 → load_result signed 2 x < 2 ^ 32
  at true lt = extended_lt x (2 ^ 16) (nat_lt x (2 ^ 15)) lt (omega arith)
  at false lt = omega arith
extended_small size signed x (inr (inr e)) lt = subst (λ n. load_result signed n x < 2 ^ 32) (sym e) (at signed (subst (λ n. x < 2 ^ (8 * n)) e lt)) where
  at : (signed : Bool) → x < 2 ^ 32 → load_result signed 4 x < 2 ^ 32
  at true lt = extended_lt x (2 ^ 32) (nat_lt x (2 ^ 31)) lt (omega arith)
  at false lt = lt

all_below : (size : ℕ) (signed : Bool) (z : ℕ) → IsAccessSize size → Among z (all_loaded_words size signed) → z < 2 ^ 32
all_below size signed z is i =
    let m = among_map (load_result signed size) z (multiples_in_range 0 (2 ^ (8 * size) - 1) 0) i in
    let r = range_among m.0 0 (2 ^ (8 * size) - 1) 0 (omega arith) m.1 in
    let some : 0 < 2 ^ (8 * size) = powers is in
    let lt : m.0 < 2 ^ (8 * size) = let le : m.0 ≤ 2 ^ (8 * size) - 1 = r.1 in omega arith in
    subst (λ n. n < 2 ^ 32) (sym m.2) (extended_small size signed m.0 is lt)
  where
    powers : IsAccessSize size → 0 < 2 ^ (8 * size)
    powers (inl e) = subst (λ n. 0 < 2 ^ (8 * n)) (sym e) (omega arith)
    powers (inr (inl e)) = subst (λ n. 0 < 2 ^ (8 * n)) (sym e) (omega arith)
    powers (inr (inr e)) = subst (λ n. 0 < 2 ^ (8 * n)) (sym e) (omega arith)

-- each byte of the image is below 256
abbrev pub HasImageBytes : ImageData → Type 0
HasImageBytes image = (x b : ℕ) → image_byte image x ≡ Some b → b < 2 ^ 8

held_lt : (image : ImageData) → HasImageBytes image → (x n w : ℕ) → number_in_image image x n ≡ Some w → w < 2 ^ (8 * n)
unfolding number_in_image
held_lt image bytes x zero w e = let f : 0 ≡ w = let g : Some 0 ≡ Some w = e in cc in omega arith
held_lt image bytes x (suc n) w e =
    let h = held_parts (image_byte image x) (number_in_image image (x + 1) n) w e in
    let rest = held_lt image bytes (x + 1) n h.1 h.3 in
    let s : 8 * suc n ≡ 8 + 8 * n = omega arith in
    let p : 2 ^ (8 * suc n) ≡ 2 ^ 8 * 2 ^ (8 * n) = ap (λ k. 2 ^ k) s ∙ pow-add 2 8 (8 * n) in
    let lt = one_more_byte n h.0 h.1 (2 ^ (8 * n)) refl (bytes x h.0 h.2) rest in
    subst (λ q. w < q) (sym p) (subst (λ y. y < 2 ^ 8 * 2 ^ (8 * n)) h.4 lt)

module _ (image : ImageData) (plan : PlanData) (size : ℕ) (signed : Bool) (ok : IsPlan plan) (bytes : HasImageBytes image) (is : IsAccessSize size) where
  rom_lt : (x w : ℕ) → rom_number image plan x size ≡ Some w → w < 2 ^ (8 * size)
  rom_lt x w e =
      elim (cases_Bool (list_any (is_within_range x size) plan.rom)) [
        | inl t ↦ held_lt image bytes x size w (rw t at e)
        | inr f ↦ absurd (let g : None ≡ Some w = rw f at e in cc)
      ]

  -- the peripheral that is found is one of the plan's
  device_is : (xs : List ℕ) (d : Device) → device_of_loads plan size xs ≡ Some d → is_plan_device d ≡ true
  device_is xs d e =
      elim (cases_Bool (eqb size 4)) [
        | inl four ↦ found_all (λ d. list_all (λ x. is_within_range x 4 d.range) xs) is_plan_device plan.devices d ok.ranges.devices (rw four at e)
        | inr other ↦ absurd (let f : None ≡ Some d = rw other at e in cc)
      ]

  answers_below : (xs : List ℕ) (o : Option Device) → device_of_loads plan size xs ≡ o → (z : ℕ) → Among z (answers_to_load size signed o) → z < 2 ^ 32
  answers_below xs None e z i = all_below size signed z is i
  answers_below xs (Some d) e z i =
      let below : d.hi < 2 ^ 32 = ltb-true d.hi (2 ^ 32) (and_parts _ _ (device_is xs d e)).1 in
      let m = range_among z d.lo d.hi 0 (omega arith) i in
      let le : z ≤ d.hi = m.1 in
      omega arith

  answers_more : (xs : List ℕ) → 1 ≤ length (answers_to_load size signed (device_of_loads plan size xs))
  answers_more xs =
      elim (cases_Bool (eqb size 4)) [
        | inl four ↦ rw four (answers_some size signed (find (λ d. list_all (λ x. is_within_range x 4 d.range) xs) plan.devices) (device_bounds plan _ _ ok refl))
        | inr other ↦ rw other (answers_some size signed None tt)
      ]

  given_below : (x : ℕ) (o : Option ℕ) → rom_number image plan x size ≡ o → (z : ℕ) → Among z (loaded_word_or_answers size signed (device_of_loads plan size (x ∷ [])) o) → z < 2 ^ 32
  given_below x None e z i = answers_below (x ∷ []) (device_of_loads plan size (x ∷ [])) refl z i
  given_below x (Some w) e z i =
      elim i [
        | inl same ↦ subst (λ n. n < 2 ^ 32) (sym same) (extended_small size signed w is (rom_lt x w e))
        | inr none ↦ absurd none
      ]

  given_more : (x : ℕ) (o : Option ℕ) → 1 ≤ length (loaded_word_or_answers size signed (device_of_loads plan size (x ∷ [])) o)
  given_more x None = answers_more (x ∷ [])
  given_more x (Some w) = omega arith

  flat_words : (ws : List ℕ) (z : ℕ) → Among z (flat_map (loaded_words_at image plan size signed) ws) → z < 2 ^ 32
  flat_words [] z i = absurd i
  flat_words (w ∷ ws) z i =
      elim (among_append z (loaded_words_at image plan size signed w) (flat_map (loaded_words_at image plan size signed) ws) i) [
        | inl j ↦ given_below w (rom_number image plan w size) refl z j
        | inr j ↦ flat_words ws z j
      ]

  flat_more : (ws : List ℕ) → 1 ≤ length ws → 1 ≤ length (flat_map (loaded_words_at image plan size signed) ws)
  flat_more [] some = absurd (omega arith)
  flat_more (w ∷ ws) some =
      omega (arith, length-append (loaded_words_at image plan size signed w) (flat_map (loaded_words_at image plan size signed) ws), given_more w (rom_number image plan w size))

  pub loaded_value : (b : Limits) (v : Val) → AreLimits b → IsInLattice b v → IsInLattice b (load_value_of b image plan v size signed)
  loaded_value b (Set ws) limits vv = (cover_least b _ limits (record { some = flat_more ws vv.well.some; below = flat_words ws })).value
  loaded_value b (Span lo last step) limits vv =
      (cover_least b _ limits (record { some = answers_more (multiples_in_range lo last step); below = answers_below (multiples_in_range lo last step) (device_of_loads plan size (multiples_in_range lo last step)) refl })).value
