-- What is in the memory of a start state.
use Rattle.std.proofs.Common.{◌≡◌, ◌≢◌, ℕ, zero, suc, ◌+◌, ◌*◌, ◌<◌, ◌≤◌, ◌⊎◌, inl, inr, true, List, [], ◌∷◌, Option, Some, None, refl, sym, ap, ◌∙◌, arith}
use Rattle.std.proofs.lemmas.Bool.{cases_eq, cases_lt}
use Rattle.std.specs.Prelude.{is_some}
use Rattle.std.specs.FinMap as map
use Rattle.csa_chain.specs.MemoryBytes.{Memory, is_mapped, with_byte, HasOnlyBytes}
use Rattle.csa_chain.proofs.MemoryLaws.{get-with_byte_same, get-with_byte_other, is_mapped-with_byte, is_mapped-with_words, get-with_words_other}
use Rattle.csa_chain.proofs.WordLaws.{HasBytes-with_words}
use Rattle.elf_image.specs.Images.{ImageData, image_byte}
use Rattle.tcd_base.specs.declared.range.Range.{Range}
use Rattle.tcd_base.specs.Ranges.{IsWithinRange, IsInOneRange}
use Rattle.tc_machine.specs.Starting.{with_image_byte, with_image_in_range, with_image_in_ranges, next_start_link, with_area_links}

-- ---- the image's bytes
apart_from : (x n y : ℕ) → (y < x) ⊎ (x + suc n ≤ y) → y ≢ x + n
apart_from x n y (inl h) = omega arith
apart_from x n y (inr h) = omega arith

less_outside : (x n y : ℕ) → (y < x) ⊎ (x + suc n ≤ y) → (y < x) ⊎ (x + n ≤ y)
less_outside x n y (inl h) = inl h
less_outside x n y (inr h) = inr (omega arith)

module _ (image : ImageData) where
  -- a byte that is the image's stays
  some_stays : (m : Memory) (x y b : ℕ) → image_byte image y ≡ Some b → map.get m y ≡ Some b → map.get (with_image_byte m x (image_byte image x)) y ≡ Some b
  some_stays m x y b held here =
      elim (cases_eq y x) [
        | inl same ↦
            ap (λ o. map.get (with_image_byte m x o) y) (ap (image_byte image) (sym same) ∙ held) ∙ ap (map.get (with_byte m x b)) same
            ∙ get-with_byte_same m x b (ap is_some (ap (map.get m) (sym same) ∙ here))
        | inr apart ↦
            elim (image_byte image x) as (λ o. map.get (with_image_byte m x o) y ≡ Some b) [ Some c ↦ get-with_byte_other m x c y apart ∙ here | None ↦ here ]
      ]

  other_stays : (m : Memory) (x y : ℕ) (o : Option ℕ) → y ≢ x → map.get (with_image_byte m x o) y ≡ map.get m y
  other_stays m x y (Some c) apart = get-with_byte_other m x c y apart
  other_stays m x y None apart = refl

  mapped_stays : (m : Memory) (x y : ℕ) (o : Option ℕ) → is_mapped (with_image_byte m x o) y ≡ is_mapped m y
  mapped_stays m x y (Some c) = is_mapped-with_byte m x c y
  mapped_stays m x y None = refl

  -- if the image has no byte there, nothing changes
  none_stays : (m : Memory) (x y : ℕ) → image_byte image y ≡ None → map.get (with_image_byte m x (image_byte image x)) y ≡ map.get m y
  none_stays m x y none =
      elim (cases_eq y x) [
        | inl same ↦ ap (λ o. map.get (with_image_byte m x o) y) (ap (image_byte image) (sym same) ∙ none)
        | inr apart ↦ other_stays m x y (image_byte image x) apart
      ]

  -- in one range
  image_held : (m : Memory) (x n y b : ℕ) → image_byte image y ≡ Some b → map.get m y ≡ Some b → map.get (with_image_in_range image m x n) y ≡ Some b
  unfolding with_image_in_range
  image_held m x zero y b held here = here
  image_held m x (suc n) y b held here = some_stays (with_image_in_range image m x n) (x + n) y b held (image_held m x n y b held here)

  pub image_mapped : (m : Memory) (x n y : ℕ) → is_mapped (with_image_in_range image m x n) y ≡ is_mapped m y
  unfolding with_image_in_range
  image_mapped m x zero y = refl
  image_mapped m x (suc n) y = mapped_stays (with_image_in_range image m x n) (x + n) y (image_byte image (x + n)) ∙ image_mapped m x n y

  pub image_none : (m : Memory) (x n y : ℕ) → image_byte image y ≡ None → map.get (with_image_in_range image m x n) y ≡ map.get m y
  unfolding with_image_in_range
  image_none m x zero y none = refl
  image_none m x (suc n) y none = none_stays (with_image_in_range image m x n) (x + n) y none ∙ image_none m x n y none

  pub image_outside : (m : Memory) (x n y : ℕ) → (y < x) ⊎ (x + n ≤ y) → map.get (with_image_in_range image m x n) y ≡ map.get m y
  unfolding with_image_in_range
  image_outside m x zero y out = refl
  image_outside m x (suc n) y out = other_stays (with_image_in_range image m x n) (x + n) y (image_byte image (x + n)) (apart_from x n y out) ∙ image_outside m x n y (less_outside x n y out)

  pub image_put : (m : Memory) (x n y b : ℕ) → x ≤ y → y < x + n → is_mapped m y ≡ true → image_byte image y ≡ Some b → map.get (with_image_in_range image m x n) y ≡ Some b
  unfolding with_image_in_range
  image_put m x zero y b low high here held = absurd (omega arith)
  image_put m x (suc n) y b low high here held =
      elim (cases_eq y (x + n)) [
        | inl same ↦
            ap (λ o. map.get (with_image_byte (with_image_in_range image m x n) (x + n) o) y) (ap (image_byte image) (sym same) ∙ held)
            ∙ ap (map.get (with_byte (with_image_in_range image m x n) (x + n) b)) same
            ∙ get-with_byte_same (with_image_in_range image m x n) (x + n) b (image_mapped m x n (x + n) ∙ ap (is_mapped m) (sym same) ∙ here)
        | inr apart ↦ some_stays (with_image_in_range image m x n) (x + n) y b held (image_put m x n y b low (omega arith) here held)
      ]

  -- in all ranges
  images_held : (m : Memory) (rs : List Range) (y b : ℕ) → image_byte image y ≡ Some b → map.get m y ≡ Some b → map.get (with_image_in_ranges image m rs) y ≡ Some b
  images_held m [] y b held here = here
  images_held m (r ∷ rs) y b held here = images_held (with_image_in_range image m r.at r.len) rs y b held (image_held m r.at r.len y b held here)

  pub images_put : (m : Memory) (rs : List Range) (y b : ℕ) → IsInOneRange y 1 rs → is_mapped m y ≡ true → image_byte image y ≡ Some b → map.get (with_image_in_ranges image m rs) y ≡ Some b
  images_put m [] y b there here held = absurd there
  images_put m (r ∷ rs) y b (inl there) here held = images_held (with_image_in_range image m r.at r.len) rs y b held (image_put m r.at r.len y b there.0 (let lt = there.1 in omega arith) here held)
  images_put m (r ∷ rs) y b (inr there) here held = images_put (with_image_in_range image m r.at r.len) rs y b there (image_mapped m r.at r.len y ∙ here) held

  pub images_mapped : (m : Memory) (rs : List Range) (y : ℕ) → is_mapped (with_image_in_ranges image m rs) y ≡ is_mapped m y
  images_mapped m [] y = refl
  images_mapped m (r ∷ rs) y = images_mapped (with_image_in_range image m r.at r.len) rs y ∙ image_mapped m r.at r.len y

  pub images_none : (m : Memory) (rs : List Range) (y : ℕ) → image_byte image y ≡ None → map.get (with_image_in_ranges image m rs) y ≡ map.get m y
  images_none m [] y none = refl
  images_none m (r ∷ rs) y none = images_none (with_image_in_range image m r.at r.len) rs y none ∙ image_none m r.at r.len y none

  outside : (r : Range) (y : ℕ) → (IsWithinRange y 1 r → ⊥) → (y < r.at) ⊎ (r.at + r.len ≤ y)
  outside r y gone =
      elim (cases_lt y r.at) [
        | inl below ↦ inl below
        | inr above ↦ elim (cases_lt y (r.at + r.len)) [ inl within ↦ absurd (gone (above, omega arith)) | inr beyond ↦ inr beyond ]
      ]

  pub images_outside : (m : Memory) (rs : List Range) (y : ℕ) → (IsInOneRange y 1 rs → ⊥) → map.get (with_image_in_ranges image m rs) y ≡ map.get m y
  images_outside m [] y gone = refl
  images_outside m (r ∷ rs) y gone =
      images_outside (with_image_in_range image m r.at r.len) rs y (λ h. gone (inr h)) ∙ image_outside m r.at r.len y (outside r y (λ h. gone (inl h)))

-- ---- the links

module _ (at first n : ℕ) (m : Memory) where
  pub links_mapped : (k y : ℕ) → is_mapped (with_area_links at first n m k) y ≡ is_mapped m y
  unfolding with_area_links
  links_mapped zero y = refl
  links_mapped (suc k) y = is_mapped-with_words (with_area_links at first n m k) (at + 64 * k) (next_start_link first n k ∷ []) y ∙ links_mapped k y

  pub links_bytes : HasOnlyBytes m → (k : ℕ) → HasOnlyBytes (with_area_links at first n m k)
  unfolding with_area_links
  links_bytes h zero = h
  links_bytes h (suc k) = HasBytes-with_words (with_area_links at first n m k) (at + 64 * k) (next_start_link first n k ∷ []) (links_bytes h k)

  -- what is outside the links' own words
  pub links_outside : (k y : ℕ) → ((j : ℕ) → j < k → (y < at + 64 * j) ⊎ (at + 64 * j + 4 ≤ y)) → map.get (with_area_links at first n m k) y ≡ map.get m y
  unfolding with_area_links
  links_outside zero y out = refl
  links_outside (suc k) y out =
      get-with_words_other (with_area_links at first n m k) (at + 64 * k) (next_start_link first n k ∷ []) y (out k (omega arith))
      ∙ links_outside k y (λ j lt. out j (omega arith))
