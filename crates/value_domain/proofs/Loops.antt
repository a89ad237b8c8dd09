-- The steps of loops.
use Rattle.std.proofs.Common.{◌≡◌, ℕ, zero, suc, ◌+◌, ◌-◌, ◌*◌, ◌^◌, ◌<◌, ◌≤◌, inl, inr, List, [], ◌∷◌, length, refl, sym, ap, ◌∙◌, arith, min, max, drop, subst, get_or, add-one, ◌/◌, ◌%◌}
use Rattle.std.proofs.Math.Seq.{drop-cons}
use Rattle.std.proofs.lemmas.List.{drop_all}
use Rattle.std.proofs.lemmas.Bool.{cases_lt}
use Rattle.std.specs.List.{insert}
use Rattle.value_domain.proofs.ExtentLaws.{some_length, extent_rising, extent_range}
use Rattle.value_domain.proofs.CoverLaws.{step_cases}
use Rattle.value_domain.specs.Values.{IsWellFormed, multiples_in_range}
use Rattle.value_domain.specs.Sets.{IsExtent, Among, IsAscending, alignment_log2, step_of_set, least, greatest, sorted_set_insert, AreSetWords}
use Rattle.value_domain.specs.declared.values.Val.TheVariants.{Span}
use Rattle.value_domain.proofs.SetLaws.{put-lt, put-gt, rising_put, among_put, length_put, put_has, greatest_greatest}

pub drop_at : (xs : List ℕ) (i : ℕ) → i < length xs → drop i xs ≡ get_or xs i 0 ∷ drop (i + 1) xs
drop_at xs i h = rw (add-one) (drop-cons xs i 0 h)

pub step_more : (xs : List ℕ) (i step t : ℕ) → i < length xs → step_of_set xs ≡ min step (step_of_set (drop i xs)) → t ≡ alignment_log2 (get_or xs i 0)
    → step_of_set xs ≡ min (min t step) (step_of_set (drop (i + 1) xs))
unfolding step_of_set
step_more xs i step t h inv e =
    let d : step_of_set (drop i xs) ≡ min (alignment_log2 (get_or xs i 0)) (step_of_set (drop (i + 1) xs)) = ap step_of_set (drop_at xs i h) in
    omega arith

pub step_all : (xs : List ℕ) (i step : ℕ) → length xs ≤ i → step ≤ 2 → step_of_set xs ≡ min step (step_of_set (drop i xs)) → step ≡ step_of_set xs
unfolding step_of_set
step_all xs i step h small inv = let d : step_of_set (drop i xs) ≡ 2 = ap step_of_set (drop_all i xs h) in omega arith

-- the elements of a list by their places
pub among_get : (ws : List ℕ) (i : ℕ) → i < length ws → Among (get_or ws i 0) ws
among_get [] i h = absurd (omega arith)
among_get (w ∷ ws) zero h = inl refl
among_get (w ∷ ws) (suc i) h = inr (among_get ws i (omega arith))

-- a word that isn't there goes before the first greater one
pub put-insert : (x : ℕ) (ws : List ℕ) (at : ℕ) → IsAscending ws → at ≤ length ws → (0 < at → get_or ws (at - 1) 0 < x) → (at < length ws → x < get_or ws at 0)
    → sorted_set_insert x ws ≡ insert ws at x
unfolding sorted_set_insert
put-insert x [] zero r within before after = refl
put-insert x [] (suc at) r within before after = absurd (omega arith)
put-insert x (y ∷ ys) zero r within before after = put-lt x y ys (after (omega arith))
put-insert x (y ∷ ys) (suc zero) r within before after =
    let high : y < x = before (omega arith) in
    put-gt x y ys high ∙ ap (λ (l : List ℕ). y ∷ l) (put-insert x ys zero r.1 (omega arith) (λ h. absurd (omega arith)) (λ h. after (omega arith)))
put-insert x (y ∷ ys) (suc (suc at)) r within before after =
    let two : get_or (y ∷ ys) (suc (suc at) - 1) 0 ≡ get_or ys at 0 = let e : suc (suc at) - 1 ≡ suc at = omega arith in ap (λ i. get_or (y ∷ ys) i 0) e in
    let last : get_or ys at 0 < x = rw two at (before (omega arith)) in
    let over : y < get_or ys at 0 = r.0 (get_or ys at 0) (among_get ys at (omega arith)) in
    put-gt x y ys (omega arith)
    ∙ ap (λ (l : List ℕ). y ∷ l) (put-insert x ys (suc at) r.1 (omega arith) (λ h. let e : suc at - 1 ≡ at = omega arith in rw e last) (λ h. after (omega arith)))

pub words_put : (x : ℕ) (ws : List ℕ) → AreSetWords ws → length ws < 128 → x < 2 ^ 32 → AreSetWords (sorted_set_insert x ws)
words_put x ws a room small = record {
  some = some_length (sorted_set_insert x ws) x (put_has x ws);
  few = omega (arith, length_put x ws);
  rising = rising_put x ws a.rising;
  below = λ z i. elim (among_put z x ws i) [ inl e ↦ let e2 : z ≡ x = e in omega arith | inr j ↦ a.below z j ];
}

pub greatest-last : (ws : List ℕ) → IsAscending ws → 1 ≤ length ws → greatest ws ≡ get_or ws (length ws - 1) 0
unfolding greatest
greatest-last [] r some = absurd (omega arith)
greatest-last (w ∷ []) r some = omega arith
greatest-last (w ∷ v ∷ vs) r some =
    let rest : greatest (v ∷ vs) ≡ get_or (v ∷ vs) (length (v ∷ vs) - 1) 0 = greatest-last (v ∷ vs) r.1 (omega arith) in
    let over : w < v = r.0 v (inl refl) in
    let high : v ≤ greatest (v ∷ vs) = greatest_greatest (v ∷ vs) v (inl refl) in
    let i : length (w ∷ v ∷ vs) - 1 ≡ suc (length (v ∷ vs) - 1) = omega arith in
    let m : max w (greatest (v ∷ vs)) ≡ greatest (v ∷ vs) = omega arith in
    m ∙ rest ∙ ap (λ i. get_or (w ∷ v ∷ vs) i 0) (sym i)

pub least-first : (ws : List ℕ) → 1 ≤ length ws → least ws ≡ get_or ws 0 0
unfolding least
least-first [] some = refl
least-first (w ∷ ws) some = refl

pub extent_places : (ws : List ℕ) (step : ℕ) → AreSetWords ws → step ≡ step_of_set ws → IsExtent ws (get_or ws 0 0) (get_or ws (length ws - 1) 0) step
extent_places ws step a e = rw (← least-first ws a.some, ← greatest-last ws a.rising a.some, e) (extent_rising ws a.rising a.some)

-- a shift gives the unit of a step
unit_shift : (s : ℕ) → s ≤ 2 → 1 * 2 ^ s % 2 ^ 64 ≡ 2 ^ s
unit_shift = step_cases (λ s. 1 * 2 ^ s % 2 ^ 64 ≡ 2 ^ s) refl refl refl

pub extent_units : (lo last s lo2 last2 : ℕ) → lo2 ≡ lo → last2 ≡ last → IsWellFormed (Span lo last s)
    → IsExtent (multiples_in_range lo last s) ((lo2 + (1 * 2 ^ s % 2 ^ 64 - 1)) / (1 * 2 ^ s % 2 ^ 64) * (1 * 2 ^ s % 2 ^ 64)) (last2 / (1 * 2 ^ s % 2 ^ 64) * (1 * 2 ^ s % 2 ^ 64)) s
extent_units lo last s lo2 last2 e f well = rw (unit_shift s well.0, e, f) (extent_range lo last s well.0 (omega (arith, well.1)))

pub above_absent : (x : ℕ) (ws : List ℕ) (at : ℕ) → (Among x ws → ⊥) → (at < length ws → x ≤ get_or ws at 0) → at < length ws → x < get_or ws at 0
above_absent x ws at absent low h =
    let l : x ≤ get_or ws at 0 = low h in
    elim (cases_lt x (get_or ws at 0)) [
      | inl lt ↦ lt
      | inr ge ↦ let e : get_or ws at 0 ≡ x = omega arith in absurd (absent (subst (λ (z : ℕ). Among z ws) e (among_get ws at h)))
    ]
