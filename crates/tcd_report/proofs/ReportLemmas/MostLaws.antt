-- The greatest number of the elements, over one element after another.
use Rattle.std.proofs.Common.{◌≡◌, ℕ, ◌+◌, ◌<◌, ◌≤◌, List, [], ◌∷◌, ◌++◌, length, get_or, take, max, inl, inr, refl, sym, ap, ◌∙◌, subst, arith}
use Rattle.std.proofs.lemmas.Bool.{cases_lt}
use Rattle.std.proofs.lemmas.List.{take_all, take_more}
use Rattle.std.proofs.lemmas.List.Elements.{Contains-append_left, Contains-push, Contains-push_cases}
use Rattle.tcd_report.specs.Reports.Heights.{IsGreatestHeight, IsGreatestHeightInList}

-- no element has a number
pub most_none : {A : Type 0} (Has : A → ℕ → Type 0) → IsGreatestHeightInList Has [] 0
most_none Has = record { reached = inl refl; most = λ m h. absurd (let before = ((h.1).0).1 in omega (arith, before)) }

-- the elements with one more at the end
pub most_with : {A : Type 0} (Has : A → ℕ → Type 0) (xs : List A) (x : A) (a b n : ℕ) → IsGreatestHeightInList Has xs a → IsGreatestHeight (Has x) b → n ≡ max b a → IsGreatestHeightInList Has (xs ++ x ∷ []) n
most_with Has xs x a b n first second e =
    record {
      reached =
          elim (cases_lt a b) [
            | inl lt ↦
                let same : b ≡ n = omega (arith, lt, e) in
                elim second.reached [
                  | inl none ↦ absurd (omega (arith, lt, none))
                  | inr has ↦ inr (x, (Contains-push xs x, subst (Has x) same has))
                ]
            | inr ge ↦
                let same : a ≡ n = omega (arith, ge, e) in
                elim first.reached [
                  | inl none ↦ inl (omega (arith, same, none))
                  | inr has ↦ inr (has.0, (Contains-append_left xs (x ∷ []) has.0 (has.1).0, subst (Has has.0) same (has.1).1))
                ]
          ];
      most = λ m h.
          elim (Contains-push_cases xs x h.0 (h.1).0) [
            | inl before ↦ let le = first.most m (h.0, (before, (h.1).1)) in omega (arith, le, e)
            | inr last ↦ let le = second.most m (subst (λ z. Has z m) (sym last) (h.1).1) in omega (arith, le, e)
          ];
    }

-- the greatest number with one element more
pub most_more : {A : Type 0} (Has : A → ℕ → Type 0) (xs : List A) (i : ℕ) (x : A) (a b n : ℕ) → i < length xs → x ≡ get_or xs i x → IsGreatestHeightInList Has (take i xs) a → IsGreatestHeight (Has x) b → n ≡ max b a → IsGreatestHeightInList Has (take (i + 1) xs) n
most_more Has xs i x a b n lt at first second e =
    subst (λ ys. IsGreatestHeightInList Has ys n) (ap (λ y. take i xs ++ y ∷ []) at ∙ sym (take_more xs i x lt)) (most_with Has (take i xs) x a b n first second e)

-- the greatest number of all elements
pub most_all : {A : Type 0} (Has : A → ℕ → Type 0) (xs : List A) (i n : ℕ) → length xs ≤ i → IsGreatestHeightInList Has (take i xs) n → IsGreatestHeightInList Has xs n
most_all Has xs i n ge h = subst (λ ys. IsGreatestHeightInList Has ys n) (take_all i xs ge) h

-- the greatest number with an equivalent property
pub most_same : (P Q : ℕ → Type 0) (n : ℕ) → ((m : ℕ) → P m → Q m) → ((m : ℕ) → Q m → P m) → IsGreatestHeight P n → IsGreatestHeight Q n
most_same P Q n there back h =
    record {
      reached = elim h.reached [ inl none ↦ inl none | inr has ↦ inr (there n has) ];
      most = λ m q. h.most m (back m q);
    }
