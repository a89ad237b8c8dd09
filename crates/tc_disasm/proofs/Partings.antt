-- Lists that are parted at the elements that pass a test.
use Rattle.std.proofs.Common.{◌≡◌, Bool, true, false, cond, List, [], ◌∷◌, ◌++◌, refl, ap}
use Rattle.std.proofs.lemmas.Bool.{and_parts}
use Rattle.std.specs.Prelude.{not}
use Rattle.std.specs.List.{list_all, slice_split, onto_first}

module _ {X : Type 0} (p : X → Bool) where
  -- up to the first that passes
  pub split_at : (xs : List X) (y : X) (ys : List X) → list_all (λ x. not (p x)) xs ≡ true → p y ≡ true → slice_split p (xs ++ y ∷ ys) ≡ xs ∷ slice_split p ys
  split_at [] y ys none here = rw here refl
  split_at (x ∷ xs) y ys none here =
      let two = and_parts (not (p x)) (list_all (λ z. not (p z)) xs) none in
      by_test (p x) two.0 (split_at xs y ys two.1 here)
    where
      by_test : (b : Bool) → not b ≡ true → slice_split p (xs ++ y ∷ ys) ≡ xs ∷ slice_split p ys
          → cond b ([] ∷ slice_split p (xs ++ y ∷ ys)) (onto_first x (slice_split p (xs ++ y ∷ ys))) ≡ (x ∷ xs) ∷ slice_split p ys
      by_test true e ih = cc
      by_test false e ih = ap (onto_first x) ih

  -- a list without an item that passes
  pub split_whole : (xs : List X) → list_all (λ x. not (p x)) xs ≡ true → slice_split p xs ≡ xs ∷ []
  split_whole [] none = refl
  split_whole (x ∷ xs) none =
      let two = and_parts (not (p x)) (list_all (λ z. not (p z)) xs) none in
      by_test (p x) two.0 (split_whole xs two.1)
    where
      by_test : (b : Bool) → not b ≡ true → slice_split p xs ≡ xs ∷ [] → cond b ([] ∷ slice_split p xs) (onto_first x (slice_split p xs)) ≡ (x ∷ xs) ∷ []
      by_test true e ih = cc
      by_test false e ih = ap (onto_first x) ih
