-- The ranges and peripherals that a look-up finds.
use Rattle.std.proofs.Common.{◌≡◌, ℕ, ◌⊎◌, inl, inr, Bool, true, false, cond, List, [], ◌∷◌, Some, None, refl, sym, ◌∙◌, subst}
use Rattle.std.specs.List.{find, list_all}
use Rattle.std.proofs.lemmas.Bool.{and_parts, false≢true}
use Rattle.tcd_base.specs.declared.range.Range.{Range}
use Rattle.tcd_plan.specs.declared.plans.Device.{Device}
use Rattle.tcd_base.specs.Ranges.{IsWithinRange, IsInOneRange, is_within_range}
use Rattle.tcd_base.proofs.RangeLaws.{true_within}
use Rattle.tcd_plan.specs.MappedAddresses.{IsInDevice}

-- ---- what is found
-- passes the test
pub found_true : {X : Type 0} (p : X → Bool) (xs : List X) (r : X) → find p xs ≡ Some r → p r ≡ true
found_true p [] r e = absurd cc
found_true p (x ∷ xs) r e =
    elim (p x) as (λ b. p x ≡ b → cond b (Some x) (find p xs) ≡ Some r → p r ≡ true) [
      | true ↦ λ t h. let same : x ≡ r = cc in subst (λ y. p y ≡ true) same t
      | false ↦ λ t h. found_true p xs r h
    ] refl e

-- and each test that all pass
pub found_all : {X : Type 0} (p q : X → Bool) (xs : List X) (r : X) → list_all q xs ≡ true → find p xs ≡ Some r → q r ≡ true
found_all p q [] r all e = absurd cc
found_all p q (x ∷ xs) r all e =
    elim (p x) as (λ b. cond b (Some x) (find p xs) ≡ Some r → q r ≡ true) [
      | true ↦ λ h. let same : x ≡ r = cc in subst (λ y. q y ≡ true) same (and_parts (q x) (list_all q xs) all).0
      | false ↦ λ h. found_all p q xs r (and_parts (q x) (list_all q xs) all).1 h
    ] e

-- what is in a range that is found is in one of the list
pub found_one : (p : Range → Bool) (rs : List Range) (r : Range) (y n : ℕ) → find p rs ≡ Some r → IsWithinRange y n r → IsInOneRange y n rs
found_one p [] r y n e w = absurd (let f : None ≡ Some r = e in cc)
found_one p (s ∷ rs) r y n e w =
    elim (p s) as (λ b. cond b (Some s) (find p rs) ≡ Some r → IsWithinRange y n s ⊎ IsInOneRange y n rs) [
      | true ↦ λ h. let same : r ≡ s = cc in inl (subst (λ (t : Range). IsWithinRange y n t) same w)
      | false ↦ λ h. inr (found_one p rs r y n h w)
    ] e

pub found_device : (p : Device → Bool) (ds : List Device) (d : Device) (y n : ℕ) → find p ds ≡ Some d → IsWithinRange y n d.range → IsInDevice y n ds
found_device p [] d y n e w = absurd (let f : None ≡ Some d = e in cc)
found_device p (c ∷ ds) d y n e w =
    elim (p c) as (λ b. cond b (Some c) (find p ds) ≡ Some d → IsWithinRange y n c.range ⊎ IsInDevice y n ds) [
      | true ↦ λ h. let same : d ≡ c = cc in inl (subst (λ (t : Device). IsWithinRange y n t.range) same w)
      | false ↦ λ h. inr (found_device p ds d y n h w)
    ] e

-- ---- accesses
pub unfound_one : (x n : ℕ) (rs : List Range) → find (is_within_range x n) rs ≡ None → IsInOneRange x n rs → ⊥
unfound_one x n [] e i = i
unfound_one x n (r ∷ rs) e i =
    elim (is_within_range x n r) as (λ b. is_within_range x n r ≡ b → cond b (Some r) (find (is_within_range x n) rs) ≡ None → ⊥) [
      | true ↦ λ t h. let f : Some r ≡ None = h in cc
      | false ↦ λ t h. elim i [
        | inl w ↦ false≢true (sym t ∙ true_within x n r w)
        | inr j ↦ unfound_one x n rs h j
      ]
    ] refl e

pub unfound_device : (p : Device → Bool) (x n : ℕ) (ds : List Device) → ((d : Device) → IsWithinRange x n d.range → p d ≡ true) → find p ds ≡ None → IsInDevice x n ds → ⊥
unfound_device p x n [] passes e i = i
unfound_device p x n (d ∷ ds) passes e i =
    elim (p d) as (λ b. p d ≡ b → cond b (Some d) (find p ds) ≡ None → ⊥) [
      | true ↦ λ t h. let f : Some d ≡ None = h in cc
      | false ↦ λ t h. elim i [
        | inl w ↦ false≢true (sym t ∙ passes d w)
        | inr j ↦ unfound_device p x n ds passes h j
      ]
    ] refl e
