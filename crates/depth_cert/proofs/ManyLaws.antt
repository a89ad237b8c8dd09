-- Reading many items, one after another: their first fault, and numbers that ascend.
use Rattle.std.proofs.Common.{◌≡◌, ℕ, zero, suc, ◌+◌, ◌-◌, ◌<◌, ◌≤◌, List, [], ◌∷◌, ◌++◌, length, get_or, true, false, Option, Some, Result, sym, ap, ◌∙◌, arith, ltb, eqb, inl, inr, map}
use Rattle.std.specs.Prelude.{slice_get, option_map}
use Rattle.std.specs.List.Sorted.{IsStrictlyIncreasing}
use Rattle.std.proofs.lemmas.Option.{slice_get-map, slice_get-get_or}
use Rattle.std.proofs.lemmas.Bool.{cases_lt, ltb-true}
use Rattle.std.proofs.lemmas.List.{get_or_append_left, length_push, length-map, map-append}
use Rattle.std.proofs.Math.Seq.{get_or-append_seam}
use Rattle.tcd_base.specs.declared.errors.FormErr.{FormErr}
use Rattle.tcd_base.specs.Place.{Place}
use Rattle.tcd_base.specs.FieldReaders.{many_fields_at}
use Rattle.tcd_base.proofs.ManyLaws.{many_fail}
use Rattle.depth_cert.specs.declared.errors.CertErr.{CertErr}
use Rattle.depth_cert.specs.declared.errors.CertErr.TheVariants.{Bad, NoMemory}
use Rattle.depth_cert.specs.Answers.{IsFaultOf}
use Rattle.depth_cert.specs.Grammar.{is_above_last, last_number}

-- the first fault of an item, as an error says it
pub many_fault : {A : Type 0} (item : List A → Place → Result (A × Place) FormErr) (n i : ℕ) (before : List A) (start p : Place) (e : CertErr) → i < n
    → many_fields_at item n [] start ≡ many_fields_at item (n - i) before p → IsFaultOf (item before p) e → IsFaultOf (many_fields_at item n [] start) e
many_fault item n i before start p (Bad e) h inv f = many_fail item n i before start p e h inv f
many_fault item n i before start p NoMemory h inv f = tt

-- ---- numbers that ascend
pub is_above-last : (xs : List ℕ) (x : ℕ) → 1 ≤ length xs → is_above_last (last_number xs) x ≡ ltb (get_or xs (length xs - 1) 0) x
is_above-last xs x h = ap (λ (o : Option ℕ). is_above_last o x) (slice_get-get_or xs (length xs - 1) 0 (omega arith))

-- the last of the numbers of items
pub last_of-map : {A : Type 0} (f : A → ℕ) (xs : List A) → last_number (map f xs) ≡ option_map f (slice_get xs (length xs - 1))
last_of-map f xs = ap (λ n. slice_get (map f xs) (n - 1)) (length-map xs f) ∙ slice_get-map f xs (length xs - 1)

-- one item more is the last one
pub last_of-push : {A : Type 0} (f : A → ℕ) (xs : List A) (x : A) → last_number (map f (xs ++ x ∷ [])) ≡ Some (f x)
last_of-push f xs x = last_of-map f (xs ++ x ∷ []) ∙ ap (option_map f) (ap (λ n. slice_get (xs ++ x ∷ []) n) at ∙ slice_get-get_or (xs ++ x ∷ []) (length xs) x (omega (arith, len)) ∙ ap Some (get_or-append_seam xs x [] x))
  where
    len : length (xs ++ x ∷ []) ≡ length xs + 1
    len = length_push xs x

    at : length (xs ++ x ∷ []) - 1 ≡ length xs
    at = omega (arith, len)

pub rising_push : (xs : List ℕ) (x : ℕ) → IsStrictlyIncreasing xs → is_above_last (last_number xs) x ≡ true → IsStrictlyIncreasing (xs ++ x ∷ [])
rising_push xs x rising above k h =
    let len = length_push xs x in
    elim (cases_lt (k + 1) (length xs)) [
      | inl lt ↦
          let low = get_or_append_left xs (x ∷ []) 0 k (omega arith) in
          let high = get_or_append_left xs (x ∷ []) 0 (k + 1) lt in
          omega (arith, rising k lt)
      | inr ge ↦
          let last : k ≡ length xs - 1 = omega arith in
          let low = get_or_append_left xs (x ∷ []) 0 k (omega arith) in
          let high : get_or (xs ++ x ∷ []) (k + 1) 0 ≡ x = let e : k + 1 ≡ length xs = omega arith in ap (λ j. get_or (xs ++ x ∷ []) j 0) e ∙ get_or-append_seam xs x [] 0 in
          let under : get_or xs (length xs - 1) 0 < x = ltb-true _ _ (sym (is_above-last xs x (omega arith)) ∙ above) in
          let same : get_or xs k 0 ≡ get_or xs (length xs - 1) 0 = ap (λ j. get_or xs j 0) last in
          omega arith
    ]

-- a list that isn't empty has an element
pub some_elements : (n : ℕ) → false ≡ eqb n 0 → 1 ≤ n
some_elements zero h = cc
some_elements (suc n) h = omega arith

pub rising_map_push : {A : Type 0} (f : A → ℕ) (xs : List A) (x : A) → IsStrictlyIncreasing (map f xs) → is_above_last (last_number (map f xs)) (f x) ≡ true → IsStrictlyIncreasing (map f (xs ++ x ∷ []))
rising_map_push f xs x rising above = rw (map-append f xs (x ∷ [])) (rising_push (map f xs) (f x) rising above)
