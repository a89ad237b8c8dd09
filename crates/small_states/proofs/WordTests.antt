-- A word that is searched for among others.
use Rattle.std.proofs.Common.{◌≡◌, ◌∙◌, ◌↔◌, ℕ, Bool, List, [], ◌∷◌, true, false, nat_eq, IsTrue, inl, inr, sym}
use Rattle.std.specs.List.{list_any}
use Rattle.std.proofs.lemmas.Bool.{cases_Bool, eqb-true, eq-eqb, or_left, or_right}
use Rattle.value_domain.specs.Sets.{Among}

pub found_among : (x : ℕ) (ws : List ℕ) → list_any (λ y. nat_eq y x) ws ≡ true → Among x ws
found_among x [] e = absurd (let f : false ≡ true = e in cc)
found_among x (y ∷ ys) e = elim (cases_Bool (nat_eq y x)) [ inl t ↦ inl (sym (eqb-true y x t)) | inr f ↦ inr (found_among x ys (rw f at e)) ]

pub among_found : (x : ℕ) (ws : List ℕ) → Among x ws → list_any (λ y. nat_eq y x) ws ≡ true
among_found x [] i = absurd i
among_found x (y ∷ ys) i =
    elim i [ inl e ↦ or_left (nat_eq y x) (list_any (λ y. nat_eq y x) ys) (eq-eqb y x (sym e)) | inr j ↦ or_right (nat_eq y x) (list_any (λ y. nat_eq y x) ys) (among_found x ys j) ]

-- the test finds a word exactly if it is one of them
pub found : (b : Bool) (x : ℕ) (ws : List ℕ) → b ≡ list_any (λ y. nat_eq y x) ws → IsTrue b ↔ Among x ws
found b x ws e = ((λ t. found_among x ws (sym e ∙ t)), (λ i. e ∙ among_found x ws i))
