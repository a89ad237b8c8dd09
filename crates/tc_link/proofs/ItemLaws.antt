-- Items of lists, whatever is read past the end.
use Rattle.std.specs.Prelude.{OnOk}
use Rattle.std.proofs.Common.{◌≡◌, ◌<◌, ◌+◌, ℕ, Bool, true, false, ltb, List, length, get_or, Result, Ok, Err, refl, sym, ap, ◌∙◌, subst, arith}
use Rattle.std.proofs.lemmas.Bool.{ltb-true, ltb-false}
use Rattle.std.proofs.lemmas.Option.{slice_get-get_or}
use Rattle.tcd_base.proofs.OptionLaws.{some_same}

pub same_item : {A : Type 0} (xs : List A) (i : ℕ) (d e : A) → i < length xs → get_or xs i d ≡ get_or xs i e
same_item xs i d e h = some_same _ _ (sym (slice_get-get_or xs i d h) ∙ slice_get-get_or xs i e h)

-- a property of the first i items and of the next one holds of the first i + 1
pub good_more : {A : Type 0} (P : A → Type 0) (xs : List A) (i : ℕ) (x : A) → i < length xs → x ≡ get_or xs i x → P x → ((k : ℕ) (d : A) → k < i → P (get_or xs k d)) → (k : ℕ) (d : A) → k < i + 1 → P (get_or xs k d)
good_more {A} P xs i x h is p below k d l = by_test (ltb k i) refl
  where
    by_test : (b : Bool) → ltb k i ≡ b → P (get_or xs k d)
    by_test true t = below k d (ltb-true _ _ t)
    by_test false t = subst (λ (j : ℕ). P (get_or xs j d)) (omega (arith, ltb-false _ _ t, l)) (subst P (is ∙ same_item xs i x d h) p)

-- items at equal places of equal lists are equal
pub item_of : {A : Type 0} (ds rs : List A) (i : ℕ) (d : A) → ds ≡ rs → i < length ds → get_or ds i d ≡ get_or rs i (get_or ds i d)
item_of {A} ds rs i d e h = ap (λ (l : List A). get_or l i d) e ∙ same_item rs i d (get_or ds i d) (subst (λ (l : List A). i < length l) e h)

-- a clause on what a call returned
pub on_ok : {T E : Type 0} (r : Result T E) (P Q : Type 0) → (P → Q) → OnOk r P → OnOk r Q
on_ok (Ok x) P Q f h = f h
on_ok (Err e) P Q f h = tt
