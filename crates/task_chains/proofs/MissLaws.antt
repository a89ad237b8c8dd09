-- The accesses that miss a range of bytes.
use Rattle.std.proofs.Common.{◌≡◌, ℕ, ◌+◌, ◌-◌, ◌*◌, ◌/◌, ◌%◌, ◌^◌, ◌<◌, ◌≤◌, ◌⊎◌, inl, inr, Bool, true, false, List, length, get_or, IsTrue, refl, sym, subst, arith, nat_le}
use Rattle.std.specs.Prelude.{min, max, not}
use Rattle.std.proofs.lemmas.Bool.{cases_lt, leb-true, le-leb}
use Rattle.value_domain.specs.declared.values.Val.{Val}
use Rattle.value_domain.specs.declared.values.Val.TheVariants.{Set, Span}
use Rattle.value_domain.specs.Sets.{Among}
use Rattle.value_domain.specs.Values.{IsMember, IsWellFormed}
use Rattle.value_domain.proofs.CoverLaws.{step_cases, in_units, from_units}
use Rattle.store_ranges.specs.Accesses.{IsAccessSize}
use Rattle.task_chains.specs.Rule17.{AreAccessesOutside, HasAccessBetween}
use Rattle.value_domain.proofs.WordLaws.{among_place}
use Rattle.value_domain.proofs.Loops.{among_get}

-- ---- words of a list
abbrev pub HasWord : List ℕ → ℕ → ℕ → Type 0
HasWord ws low high = (x : ℕ) × Among x ws × (low ≤ x) × (x ≤ high)

pub word_here : (ws : List ℕ) (i low high : ℕ) → i < length ws → low ≤ get_or ws i 0 → get_or ws i 0 ≤ high → HasWord ws low high
word_here ws i low high lt above below = (get_or ws i 0, among_get ws i lt, above, below)

-- none of the first words is between the two
abbrev pub NoneBefore : List ℕ → ℕ → ℕ → ℕ → Type 0
NoneBefore ws i low high = (k : ℕ) → k < i → low ≤ get_or ws k 0 → get_or ws k 0 ≤ high → ⊥

pub no_word : (ws : List ℕ) (i low high : ℕ) → length ws ≤ i → NoneBefore ws i low high → HasWord ws low high → ⊥
no_word ws i low high past none (x, among, above, below) =
    let p = among_place ws x among in
    let lt = p.1 in
    let e = p.2 in
    none p.0 (omega arith) (omega arith) (omega arith)

-- ---- members of a range
-- the least multiple of 2 ^ step from m on
abbrev pub multiple_from : ℕ → ℕ → ℕ
multiple_from m step = (m + (2 ^ step - 1)) / 2 ^ step * 2 ^ step

from_below : (step : ℕ) → step ≤ 2 → (m : ℕ) → m ≤ multiple_from m step
from_below = step_cases (λ s. (m : ℕ) → m ≤ multiple_from m s) (λ m. omega arith) (λ m. omega arith) (λ m. omega arith)

from_least : (step : ℕ) → step ≤ 2 → (m k : ℕ) → m ≤ k * 2 ^ step → multiple_from m step ≤ k * 2 ^ step
from_least = step_cases (λ s. (m k : ℕ) → m ≤ k * 2 ^ s → multiple_from m s ≤ k * 2 ^ s) (λ m k h. omega arith) (λ m k h. omega arith) (λ m k h. omega arith)

module _ (lo last step low high : ℕ) (small : step ≤ 2) where
  span_has : multiple_from (max low lo) step ≤ min high last → HasAccessBetween (Span lo last step) low high
  span_has le =
      let m = multiple_from (max low lo) step in
      let above = from_below step small (max low lo) in
      (m, ((let a : lo ≤ m = omega arith in a), (let b : m ≤ last = omega arith in b), from_units step small ((max low lo + (2 ^ step - 1)) / 2 ^ step) m refl), (let c : low ≤ m = omega arith in c), (let d : m ≤ high = omega arith in d))

  span_least : HasAccessBetween (Span lo last step) low high → multiple_from (max low lo) step ≤ min high last
  span_least (x, member, above, below) =
      let e = in_units step small x member.2 in
      let k = x / 2 ^ step in
      let le : max low lo ≤ k * 2 ^ step = subst (λ y. max low lo ≤ y) e (omega arith) in
      omega (arith, member.0, member.1, subst (λ y. multiple_from (max low lo) step ≤ y) (sym e) (from_least step small (max low lo) k le))

  pub span_both : (first most : ℕ) → first ≡ multiple_from (max low lo) step → most ≡ min high last → (IsTrue (nat_le first most) → HasAccessBetween (Span lo last step) low high) × (HasAccessBetween (Span lo last step) low high → IsTrue (nat_le first most))
  span_both first most a b = (
    λ t. span_has (let le = leb-true first most t in subst (λ y. multiple_from (max low lo) step ≤ y) b (subst (λ y. y ≤ most) a le)),
    λ h. le-leb first most (let le = span_least h in subst (λ y. first ≤ y) (sym b) (subst (λ y. y ≤ min high last) (sym a) le)),
  )

-- ---- accesses
member_small : (v : Val) → IsWellFormed v → (x : ℕ) → IsMember x v → x < 2 ^ 32
member_small (Set ws) well x m = well.below x m
member_small (Span lo last step) well x m = let a = m.1 in let b = well.2 in omega arith

size_some : (n : ℕ) → IsAccessSize n → (1 ≤ n) × (n ≤ 4)
size_some n (inl e) = (omega arith, omega arith)
size_some n (inr (inl e)) = (omega arith, omega arith)
size_some n (inr (inr e)) = (omega arith, omega arith)

module _ (v : Val) (n from len low last : ℕ) (well : IsWellFormed v) (size : IsAccessSize n) (some : 0 < len) (word : from < 2 ^ 32) (lowest : low ≡ from - (n - 1)) (end : last ≡ min (from + (len - 1)) (2 ^ 32 - 1)) where
  -- an access from between them touches the range
  touched : HasAccessBetween v low last → AreAccessesOutside v n from len → ⊥
  touched (x, member, above, below) all =
      let s = size_some n size in
      let s0 = s.0 in
      let s1 = s.1 in
      let lt = member_small v well x member in
      let near : x + (from - x) < 2 ^ 32 = omega arith in
      let whole : (x + (from - x)) % 2 ^ 32 ≡ x + (from - x) = omega arith in
      elim (all x member (from - x) (omega arith)) [
        | inl down ↦ absurd (omega arith)
        | inr up ↦ absurd (omega arith)
      ]

  -- so does an access from the last addresses, if the range is among the first ones
  wrapped : (first : ℕ) → from < n - 1 → first ≡ (from + (2 ^ 32 - (n - 1))) % 2 ^ 32 → HasAccessBetween v first (2 ^ 32 - 1) → AreAccessesOutside v n from len → ⊥
  wrapped first near is (x, member, above, below) all =
      let s = size_some n size in
      let s0 = s.0 in
      let s1 = s.1 in
      let at : first ≡ from + 2 ^ 32 - (n - 1) = omega arith in
      let round : (x + (from + 2 ^ 32 - x)) % 2 ^ 32 ≡ from = omega arith in
      elim (all x member (from + 2 ^ 32 - x) (omega arith)) [
        | inl down ↦ absurd (omega arith)
        | inr up ↦ absurd (omega arith)
      ]

  -- no other access touches the range
  missed : (first : ℕ) → (HasAccessBetween v low last → ⊥) → (n - 1 ≤ from) ⊎ ((first ≡ (from + (2 ^ 32 - (n - 1))) % 2 ^ 32) × (HasAccessBetween v first (2 ^ 32 - 1) → ⊥)) → AreAccessesOutside v n from len
  missed first none other x member i lt =
      let s = size_some n size in
      let s0 = s.0 in
      let s1 = s.1 in
      let small = member_small v well x member in
      elim (cases_lt ((x + i) % 2 ^ 32) from) [
        | inl down ↦ inl down
        | inr above ↦ elim (cases_lt ((x + i) % 2 ^ 32) (from + len)) [
          | inr up ↦ inr up
          | inl within ↦ elim (cases_lt (x + i) (2 ^ 32)) [
            | inl plain ↦
                let same : (x + i) % 2 ^ 32 ≡ x + i = omega arith in
                absurd (none (x, member, omega arith, omega arith))
            | inr round ↦
                let same : (x + i) % 2 ^ 32 ≡ x + i - 2 ^ 32 = omega arith in
                elim other [
                  | inl far ↦ absurd (omega arith)
                  | inr (is, nothing) ↦
                      let at : first ≡ from + 2 ^ 32 - (n - 1) = omega arith in
                      absurd (nothing (x, member, omega arith, omega arith))
                ]
          ]
        ]
      ]

  pub touches_then : HasAccessBetween v low last → (IsTrue false → AreAccessesOutside v n from len) × (AreAccessesOutside v n from len → IsTrue false)
  touches_then has = (λ t. absurd (let f : false ≡ true = t in cc), λ all. absurd (touched has all))

  pub misses_then : (HasAccessBetween v low last → ⊥) → n - 1 ≤ from → (IsTrue true → AreAccessesOutside v n from len) × (AreAccessesOutside v n from len → IsTrue true)
  misses_then none far = (λ t. missed 0 none (inl far), λ all. refl)

  pub misses_else : (first : ℕ) (r : Bool) → (HasAccessBetween v low last → ⊥) → from < n - 1 → first ≡ (from + (2 ^ 32 - (n - 1))) % 2 ^ 32 → (IsTrue r → HasAccessBetween v first (2 ^ 32 - 1)) × (HasAccessBetween v first (2 ^ 32 - 1) → IsTrue r)
      → (IsTrue (not r) → AreAccessesOutside v n from len) × (AreAccessesOutside v n from len → IsTrue (not r))
  misses_else first true none near is both = (λ t. absurd (let f : false ≡ true = t in cc), λ all. absurd (wrapped first near is (both.0 refl) all))
  misses_else first false none near is both = (λ t. missed first none (inr (is, λ has. let f : false ≡ true = both.1 has in absurd (let g : false ≡ true = f in cc))), λ all. refl)
