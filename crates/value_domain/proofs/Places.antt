-- Ascending words by their places.
use Rattle.std.proofs.Common.{◌≡◌, ℕ, zero, suc, ◌-◌, ◌<◌, ◌≤◌, inl, inr, List, [], ◌∷◌, length, get_or, sym, ap, ◌∙◌, subst, arith}
use Rattle.std.proofs.lemmas.Bool.{cases_lt, cases_eq}
use Rattle.std.proofs.lemmas.List.Sorted.{IsNonDecreasingBy-from_default}
use Rattle.std.specs.List.Sorted.{IsNonDecreasing}
use Rattle.value_domain.specs.Sets.{Among, IsAscending}
use Rattle.value_domain.proofs.Loops.{among_get}
use Rattle.value_domain.proofs.WordLaws.{among_place}

-- a later word is above an earlier one
pub rising_places : (xs : List ℕ) → IsAscending xs → (i k : ℕ) → i < k → k < length xs → get_or xs i 0 < get_or xs k 0
rising_places [] r i k lt h = absurd (omega arith)
rising_places (x ∷ xs) r i zero lt h = absurd (omega arith)
rising_places (x ∷ xs) r zero (suc k) lt h = r.0 (get_or xs k 0) (among_get xs k (omega arith))
rising_places (x ∷ xs) r (suc i) (suc k) lt h = rising_places xs r.1 i k (omega arith) (omega arith)

pub rising_order : (xs : List ℕ) → IsAscending xs → IsNonDecreasing xs
rising_order xs r =
    IsNonDecreasingBy-from_default (λ x. x) xs 0
    (λ i j le h. elim (cases_lt i j) [
      | inl lt ↦ let o : get_or xs i 0 < get_or xs j 0 = rising_places xs r i j lt h in omega arith
      | inr ge ↦ let e : i ≡ j = omega arith in let o : get_or xs i 0 ≡ get_or xs j 0 = ap (λ (k : ℕ). get_or xs k 0) e in omega arith
    ])

-- if the last word is below x, all are
pub below_last : (xs : List ℕ) (x : ℕ) → IsAscending xs → get_or xs (length xs - 1) 0 < x → (k : ℕ) → k < length xs → get_or xs k 0 < x
below_last xs x r last k h =
    elim (cases_lt k (length xs - 1)) [
      | inl lt ↦ let over : get_or xs k 0 < get_or xs (length xs - 1) 0 = rising_places xs r k (length xs - 1) lt (omega arith) in omega arith
      | inr ge ↦ let e : length xs - 1 ≡ k = omega arith in subst (λ (j : ℕ). get_or xs j 0 < x) e last
    ]

-- the words before place k are below x
abbrev pub Below : List ℕ → ℕ → ℕ → Type 0
Below xs k x = (j : ℕ) → j < k → get_or xs j 0 < x

-- if the word that is reached isn't x, x is none of them
pub not_among : (xs : List ℕ) (k x : ℕ) → IsAscending xs → Below xs k x → (k < length xs → x ≤ get_or xs k 0) → (k < length xs → get_or xs k 0 ≡ x → ⊥) → Among x xs → ⊥
not_among xs k x rising below reached other i =
    let p = among_place xs x i in
    elim (cases_lt p.0 k) [
      | inl lt ↦ let low = below p.0 lt in omega (arith, p.2)
      | inr ge ↦
          elim (cases_eq p.0 k) [
            | inl e ↦ other (omega (arith, p.1)) (ap (λ (j : ℕ). get_or xs j 0) (sym e) ∙ p.2)
            | inr ne ↦
                let high = rising_places xs rising k p.0 (omega arith) p.1 in
                let low = reached (omega (arith, p.1)) in
                omega (arith, p.2)
          ]
    ]

-- if x is one of the words, it is the one that is reached
pub reached_is : (xs : List ℕ) (k x : ℕ) → IsAscending xs → Below xs k x → (k < length xs → x ≤ get_or xs k 0) → Among x xs → get_or xs k 0 ≡ x
reached_is xs k x rising below reached i =
    elim (cases_eq (get_or xs k 0) x) [ inl e ↦ e | inr other ↦ absurd (not_among xs k x rising below reached (λ h e. other e) i) ]

pub among_here : (xs : List ℕ) (k x : ℕ) → k < length xs → get_or xs k 0 ≡ x → Among x xs
among_here xs k x h e = subst (λ (y : ℕ). Among y xs) e (among_get xs k h)

-- the words that were passed are below x
pub passed_more : (xs : List ℕ) (k m x : ℕ) → Below xs k x → ((j : ℕ) → k ≤ j → j < m → get_or xs j 0 < x) → Below xs m x
passed_more xs k m x before more j h = elim (cases_lt j k) [ inl lt ↦ before j lt | inr ge ↦ more j ge h ]
