-- The numbers of the pages in which ranges have bytes.
use Rattle.std.proofs.Common.{◌≡◌, ◌≢◌, ◌+◌, ◌<◌, ◌≤◌, ◌⊎◌, ◌||◌, ◌&&◌, ℕ, zero, suc, Bool, true, false, List, [], ◌∷◌, ◌++◌, length, get_or, take, Contains, IsTrue, inl, inr, refl, sym, ◌∙◌, subst, arith}
use Rattle.std.specs.Prelude.{nat_le, nat_lt}
use Rattle.std.proofs.lemmas.Bool.{cases_lt, cases_eq, leb-true, ltb-true}
use Rattle.std.proofs.lemmas.Grind.{get_or_default_zero}
use Rattle.std.proofs.lemmas.List.Folds.{list_any_more}
use Rattle.std.proofs.lemmas.List.Elements.{Contains-append_left, Contains-push}
use Rattle.tcd_base.specs.Ranges.{is_address_in_ranges}
use Rattle.tcd_base.specs.declared.range.Range.{Range}

-- after one more number
pub kept_more : (xs ys : List ℕ) (x : ℕ) → ys ≡ xs ++ x ∷ [] → (n : ℕ) → Contains xs n → Contains ys n
kept_more xs ys x is n has = subst (λ (zs : List ℕ). Contains zs n) (sym is) (Contains-append_left xs (x ∷ []) n has)

pub added_more : (xs ys : List ℕ) (x low : ℕ) → ys ≡ xs ++ x ∷ [] → ((n : ℕ) → low ≤ n → n < x → Contains xs n) → (n : ℕ) → low ≤ n → n < x + 1 → Contains ys n
added_more xs ys x low is each n above below =
    elim (cases_lt n x) [
      | inl l ↦ kept_more xs ys x is n (each n above l)
      | inr g ↦
          let same : x ≡ n = omega arith in
          subst (λ (zs : List ℕ). Contains zs n) (sym is) (subst (λ (m : ℕ). Contains (xs ++ x ∷ []) m) same (Contains-push xs x))
    ]

either : (a b : Bool) → IsTrue (a || b) → IsTrue a ⊎ IsTrue b
either true b h = inl refl
either false b h = inr h

both : (a b : Bool) → IsTrue (a && b) → IsTrue a × IsTrue b
both true b h = (refl, h)
both false b h = cc

-- an address in the ranges so far and one more
pub in_more : (ranges : List Range) (i : ℕ) (d : Range) (q : ℕ) → i < length ranges → IsTrue (is_address_in_ranges (take (i + 1) ranges) q) → IsTrue (is_address_in_ranges (take i ranges) q) ⊎ (((get_or ranges i d).at ≤ q) × (q < (get_or ranges i d).at + (get_or ranges i d).len))
in_more ranges i d q lt h =
    let r : Range = get_or ranges i d in
    let test : Range → Bool = λ x. nat_le x.at q && nat_lt q (x.at + x.len) in
    elim (either (is_address_in_ranges (take i ranges) q) (test r) (sym (list_any_more test ranges i d lt) ∙ h)) [
      | inl before ↦ inl before
      | inr here ↦
          let parts = both (nat_le r.at q) (nat_lt q (r.at + r.len)) here in
          inr (leb-true r.at q parts.0, ltb-true q (r.at + r.len) parts.1)
    ]

-- a place of a number in a list, or none
pub place_of : (xs : List ℕ) (x : ℕ) → ((k : ℕ) × (k < length xs) × (get_or xs k 0 ≡ x)) ⊎ ((k : ℕ) → k < length xs → get_or xs k 0 ≢ x)
place_of [] x = inr (λ k h. absurd (omega arith))
place_of (y ∷ ys) x =
    elim (cases_eq y x) [
      | inl same ↦ inl (zero, omega arith, same)
      | inr other ↦ elim (place_of ys x) [
        | inl found ↦ inl (suc found.0, omega arith, found.2)
        | inr none ↦ inr (λ k. elim k as (λ i. i < length (y ∷ ys) → get_or (y ∷ ys) i 0 ≢ x) [ zero ↦ λ h. other | suc i ↦ λ h. none i (omega arith) ])
      ]
    ]

-- a number that is contained has a place
pub not_contained : (xs : List ℕ) (x : ℕ) → ((k : ℕ) → k < length xs → get_or xs k 0 ≢ x) → Contains xs x → ⊥
not_contained xs x none has = none has.0 has.1 (sym (get_or_default_zero xs has.0 x has.1) ∙ has.2)
