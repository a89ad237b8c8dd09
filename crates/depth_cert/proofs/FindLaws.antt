-- Finding an element by a number that rises over the list.
use Rattle.std.proofs.Common.{◌≡◌, ℕ, zero, suc, ◌+◌, ◌<◌, ◌≤◌, List, [], ◌∷◌, length, map, get_or, Bool, true, false, Some, None, refl, sym, ap, ◌∙◌, arith, ltb, eqb, inl, inr}
use Rattle.std.specs.List.{find}
use Rattle.std.specs.List.Sorted.{IsStrictlyIncreasing, IsNonDecreasingBy, IsPartitionPoint}
use Rattle.std.proofs.lemmas.Bool.{cases_lt, ltb-true, ltb-false, eqb-false, ne_eqb}
use Rattle.std.proofs.lemmas.List.{length-map, get_or-map}
use Rattle.std.proofs.lemmas.List.Sorted.{IsNonDecreasingBy-from_all_adjacent}

number_at : {A : Type 0} (f : A → ℕ) (xs : List A) (k : ℕ) (d : A) → k < length xs → get_or (map f xs) k 0 ≡ f (get_or xs k d)
number_at f xs k d h = get_or-map f xs k d 0 h

next_above : {A : Type 0} (f : A → ℕ) (xs : List A) (k : ℕ) (d : A) → IsStrictlyIncreasing (map f xs) → k + 1 < length xs → f (get_or xs k d) < f (get_or xs (k + 1) d)
next_above f xs k d rising h = omega (arith, rising k (omega (arith, length-map xs f)), number_at f xs k d (omega arith), number_at f xs (k + 1) d h)

pub non_decreasing : {A : Type 0} (f : A → ℕ) (xs : List A) → IsStrictlyIncreasing (map f xs) → IsNonDecreasingBy f xs
non_decreasing f xs rising = IsNonDecreasingBy-from_all_adjacent f xs (λ k d h. omega (arith, next_above f xs k d rising h))

-- all before a place are below a later one
strictly_below : {A : Type 0} (f : A → ℕ) (xs : List A) (i k : ℕ) (d : A) → IsStrictlyIncreasing (map f xs) → i < k → k < length xs → f (get_or xs i d) < f (get_or xs k d)
strictly_below f xs i k d rising lt h =
    omega (arith, next_above f xs i d rising (omega arith), non_decreasing f xs rising (i + 1) k d (omega arith) h)

find_none : {A : Type 0} (p : A → Bool) (xs : List A) → ((k : ℕ) (d : A) → k < length xs → p (get_or xs k d) ≡ false) → find p xs ≡ None
find_none p [] h = refl
find_none p (x ∷ xs) h = rw (h 0 x (omega arith)) (find_none p xs (λ k d l. h (suc k) d (omega arith)))

find_some : {A : Type 0} (p : A → Bool) (xs : List A) (i : ℕ) (d : A) → i < length xs → p (get_or xs i d) ≡ true → ((k : ℕ) (e : A) → k < i → p (get_or xs k e) ≡ false) → find p xs ≡ Some (get_or xs i d)
find_some p [] i d h here before = absurd (omega arith)
find_some p (x ∷ xs) zero d h here before = rw here refl
find_some p (x ∷ xs) (suc i) d h here before = rw (before 0 x (omega arith)) (find_some p xs i d (omega arith) here (λ k e l. before (suc k) e (omega arith)))

-- the element at the partition point is the one, or there is none
pub found : {A : Type 0} (f : A → ℕ) (xs : List A) (x i : ℕ) (d : A) → i < length xs → IsPartitionPoint (λ y. ltb (f y) x ≡ true) (λ y. ltb (f y) x ≡ false) xs i → eqb (f (get_or xs i d)) x ≡ true
    → find (λ y. eqb (f y) x) xs ≡ Some (get_or xs i d)
found f xs x i d h place here =
    find_some (λ y. eqb (f y) x) xs i d h here
    (λ k e l. let low : f (get_or xs k e) < x = ltb-true _ _ (place.0 k e (omega arith) l) in ne_eqb _ _ (λ same. let s : f (get_or xs k e) ≡ x = same in omega arith))

pub missing : {A : Type 0} (f : A → ℕ) (xs : List A) (x i : ℕ) (d : A) → IsStrictlyIncreasing (map f xs) → IsPartitionPoint (λ y. ltb (f y) x ≡ true) (λ y. ltb (f y) x ≡ false) xs i
    → eqb (f (get_or xs i d)) x ≡ false → find (λ y. eqb (f y) x) xs ≡ None
missing f xs x i d rising place other =
    find_none (λ y. eqb (f y) x) xs
    (λ k e h. ne_eqb _ _ (λ same.
    let s : f (get_or xs k e) ≡ x = same in
    elim (cases_lt k i) [
      | inl before ↦ let low : f (get_or xs k e) < x = ltb-true _ _ (place.0 k e (omega arith) before) in absurd (omega arith)
      | inr after ↦
          let first : x ≤ f (get_or xs i d) = ltb-false _ _ (place.1 i d (omega arith) (omega arith)) in
          elim (cases_lt i k) [
            | inl past ↦ let over = strictly_below f xs i k e rising (omega arith) h in let low : x ≤ f (get_or xs i e) = ltb-false _ _ (place.1 i e (omega arith) (omega arith)) in absurd (omega arith)
            | inr here ↦
                let at : k ≡ i = omega arith in
                let one : f (get_or xs i d) ≡ x = sym (number_at f xs i d (omega arith)) ∙ ap (λ j. get_or (map f xs) j 0) (sym at) ∙ number_at f xs k e h ∙ s in
                eqb-false _ _ other one
          ]
    ]))

pub missing_end : {A : Type 0} (f : A → ℕ) (xs : List A) (x i : ℕ) → IsPartitionPoint (λ y. ltb (f y) x ≡ true) (λ y. ltb (f y) x ≡ false) xs i → length xs ≤ i → find (λ y. eqb (f y) x) xs ≡ None
missing_end f xs x i place end =
    find_none (λ y. eqb (f y) x) xs
    (λ k e h. let low : f (get_or xs k e) < x = ltb-true _ _ (place.0 k e (omega arith) (omega arith)) in ne_eqb _ _ (λ same. let s : f (get_or xs k e) ≡ x = same in omega arith))
