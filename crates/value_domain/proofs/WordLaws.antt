-- Ascending words, by neighbours and by all.
use Rattle.std.proofs.Common.{◌≡◌, ℕ, suc, ◌+◌, ◌<◌, ◌≤◌, inl, inr, List, [], ◌∷◌, length, sym, subst, arith, get_or, ◌^◌}
use Rattle.std.specs.List.Sorted.{IsStrictlyIncreasing}
use Rattle.value_domain.specs.Sets.{Among, IsAscending, AreSetWords}

next_place : (k : ℕ) → suc k + 1 ≡ suc (k + 1)
next_place k = omega arith

pub rising_from : (xs : List ℕ) → IsStrictlyIncreasing xs → IsAscending xs
rising_from [] h = tt
rising_from (x ∷ []) h = ((λ y i. absurd i), tt)
rising_from (x ∷ y ∷ ys) h =
    let first : x < y = h 0 (omega arith) in
    let rest : IsAscending (y ∷ ys) = rising_from (y ∷ ys) (λ k lt. rw (next_place k) at (h (suc k) (omega arith))) in
    ((λ z i. elim i [ inl e ↦ let e2 : z ≡ y = e in omega arith | inr j ↦ let o : y < z = rest.0 z j in omega arith ]), rest)

pub among_place : (xs : List ℕ) (x : ℕ) → Among x xs → (k : ℕ) × (k < length xs) × (get_or xs k 0 ≡ x)
among_place [] x i = absurd i
among_place (y ∷ ys) x i = elim i [ inl e ↦ (0, omega arith, sym e) | inr j ↦ let r = among_place ys x j in (suc r.0, omega arith, r.2) ]

pub words_rising : (xs : List ℕ) → 1 ≤ length xs → length xs ≤ 128 → IsAscending xs → ((k : ℕ) → get_or xs k 0 < 2 ^ 32) → AreSetWords xs
words_rising xs some few rises below = record {
  some = some;
  few = few;
  rising = rises;
  below = λ x i. let r = among_place xs x i in subst (λ (n : ℕ). n < 2 ^ 32) r.2 (below r.0);
}

pub words_from : (xs : List ℕ) → 1 ≤ length xs → length xs ≤ 128 → IsStrictlyIncreasing xs → ((k : ℕ) → get_or xs k 0 < 2 ^ 32) → AreSetWords xs
words_from xs some few ascend below = words_rising xs some few (rising_from xs ascend) below
