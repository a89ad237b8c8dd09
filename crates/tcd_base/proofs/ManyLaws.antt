-- Laws of a reader of many items.
use Rattle.std.proofs.Common.{◌≡◌, ℕ, suc, ◌+◌, ◌-◌, ◌<◌, ◌≤◌, List, [], ◌∷◌, ◌++◌, Result, Ok, Err, ap, ◌∙◌, arith}
use Rattle.tcd_base.specs.declared.errors.FormErr.{FormErr}
use Rattle.tcd_base.specs.Place.{Place}
use Rattle.tcd_base.specs.FieldReaders.{◌>>=◌, many_fields_at}

-- one more of the items that are left
pub many_more : {A : Type 0} (item : List A → Place → Result (A × Place) FormErr) (n i : ℕ) (before : List A) (start p q : Place) (x : A) → i < n
    → many_fields_at item n [] start ≡ many_fields_at item (n - i) before p → item before p ≡ Ok (x, q) → many_fields_at item n [] start ≡ many_fields_at item (n - (i + 1)) (before ++ x ∷ []) q
unfolding many_fields_at
many_more {A} item n i before start p q x h inv e =
    let left : n - i ≡ suc (n - (i + 1)) = omega arith in
    inv
    ∙ ap (λ k. many_fields_at item k before p) left
    ∙ ap (λ (r : Result (A × Place) FormErr). r >>= λ x. many_fields_at item (n - (i + 1)) (before ++ x.0 ∷ []) x.1) e

-- the first item with a fault
pub many_fail : {A : Type 0} (item : List A → Place → Result (A × Place) FormErr) (n i : ℕ) (before : List A) (start p : Place) (e : FormErr) → i < n
    → many_fields_at item n [] start ≡ many_fields_at item (n - i) before p → item before p ≡ Err e → many_fields_at item n [] start ≡ Err e
unfolding many_fields_at
many_fail {A} item n i before start p e h inv f =
    let left : n - i ≡ suc (n - (i + 1)) = omega arith in
    inv
    ∙ ap (λ k. many_fields_at item k before p) left
    ∙ ap (λ (r : Result (A × Place) FormErr). r >>= λ x. many_fields_at item (n - (i + 1)) (before ++ x.0 ∷ []) x.1) f

-- no item is left
pub many_end : {A : Type 0} (item : List A → Place → Result (A × Place) FormErr) (n i : ℕ) (before : List A) (start p : Place) → n ≤ i
    → many_fields_at item n [] start ≡ many_fields_at item (n - i) before p → many_fields_at item n [] start ≡ Ok (before, p)
unfolding many_fields_at
many_end item n i before start p h inv = let none : n - i ≡ 0 = omega arith in inv ∙ ap (λ k. many_fields_at item k before p) none
