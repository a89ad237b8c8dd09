-- The map of the earlier names decides whether a name is used.
use Rattle.std.proofs.Common.{◌≡◌, ℕ, List, [], ◌∷◌, ◌++◌, Bool, true, false, ◌||◌, refl, sym, ap, ◌∙◌}
use mathlib.Core.Path.{fun_ext}
use Rattle.std.specs.List.{list_any}
use Rattle.std.specs.Str.{bytes_eq}
use Rattle.std.proofs.lemmas.Bool.Decides.{same_from_decides, Decides-like}
use Rattle.std.proofs.lemmas.Slice.Eq.{bytes_eq-Decides}
use Rattle.std.proofs.lemmas.List.Folds.{list_any-append}

pub bytes_eq-sym : (xs ys : List ℕ) → bytes_eq xs ys ≡ bytes_eq ys xs
bytes_eq-sym xs ys = same_from_decides (bytes_eq xs ys) (bytes_eq ys xs) (bytes_eq-Decides xs ys) (Decides-like (bytes_eq ys xs) sym sym (bytes_eq-Decides ys xs))

-- a further name on either side of the test
one_more : (a b : Bool) → (a || b) ≡ (b || (a || false))
one_more true true = refl
one_more true false = refl
one_more false true = refl
one_more false false = refl

-- the used names after a further item
pub used_more : {A : Type 0} (name : A → List ℕ) (items : List A) (x : A) (old new : List ℕ → Bool)
    → ((q : List ℕ) → old q ≡ list_any (λ y. bytes_eq q (name y)) items) → ((q : List ℕ) → new q ≡ (bytes_eq (name x) q || old q))
    → (q : List ℕ) → new q ≡ list_any (λ y. bytes_eq q (name y)) (items ++ x ∷ [])
used_more name items x old new before more q =
    more q
    ∙ ap (λ b. bytes_eq (name x) q || b) (before q)
    ∙ ap (λ b. b || list_any (λ y. bytes_eq q (name y)) items) (bytes_eq-sym (name x) q)
    ∙ one_more (bytes_eq q (name x)) (list_any (λ y. bytes_eq q (name y)) items)
    ∙ sym (list_any-append (λ y. bytes_eq q (name y)) items (x ∷ []))

-- two tests that agree everywhere are equal
pub same_test : (f g : List ℕ → Bool) → ((q : List ℕ) → f q ≡ g q) → f ≡ g
same_test f g h = fun_ext h
