-- What `floor` and `threshold_above` keep.
use Rattle.std.proofs.Common.{◌≡◌, ℕ, ◌^◌, ◌<◌, ◌≤◌, inl, inr, List, [], ◌∷◌, refl, arith, min, max}
use Rattle.std.proofs.lemmas.Bool.{cases_lt, lt-ltb, le-ltb, le-leb, lt-leb}
use Rattle.std.proofs.lemmas.Bool.Decides.{nat_tests}
use Rattle.value_domain.specs.Floors.{floor, threshold_above}

pub floor_le : (ts : List ℕ) (x : ℕ) → floor ts x ≤ x
unfolding floor
floor_le [] x = omega arith
floor_le (t ∷ ts) x = let rest : floor ts x ≤ x = floor_le ts x in grind (arith, nat_tests)

pub floor_mono : (ts : List ℕ) (x y : ℕ) → x ≤ y → floor ts x ≤ floor ts y
unfolding floor
floor_mono [] x y h = omega arith
floor_mono (t ∷ ts) x y h = let rest : floor ts x ≤ floor ts y = floor_mono ts x y h in grind (arith, nat_tests)

-- nothing is between
pub floor_same : (ts : List ℕ) (x y : ℕ) → floor ts x ≤ y → y ≤ x → floor ts y ≡ floor ts x
unfolding floor
floor_same [] x y low high = refl
floor_same (t ∷ ts) x y low high =
    let rest : floor ts x ≤ y → floor ts y ≡ floor ts x = λ l. floor_same ts x y l high in
    elim (cases_lt x t) [
      | inl past ↦
          let no_y : y < t = omega arith in
          let low2 : floor ts x ≤ y = rw (lt-leb t x past) at low in
          rw (lt-leb t x past, lt-leb t y no_y) (rest low2)
      | inr at_x ↦
          let low2 : max t (floor ts x) ≤ y = rw (le-leb t x at_x) at low in
          let at_y : t ≤ y = omega arith in
          let e : floor ts y ≡ floor ts x = rest (omega arith) in
          rw (le-leb t x at_x, le-leb t y at_y, e) refl
    ]

pub above_lt : (ts : List ℕ) (x : ℕ) → x < threshold_above ts x
unfolding threshold_above
above_lt [] x = omega arith
above_lt (t ∷ ts) x = let rest : x < threshold_above ts x = above_lt ts x in grind (arith, nat_tests)

pub above_le : (ts : List ℕ) (x : ℕ) → x < 2 ^ 32 → threshold_above ts x ≤ 2 ^ 32
unfolding threshold_above
above_le [] x h = omega arith
above_le (t ∷ ts) x h = let rest : threshold_above ts x ≤ 2 ^ 32 = above_le ts x h in grind (arith, nat_tests)

pub above_mono : (ts : List ℕ) (x y : ℕ) → x ≤ y → threshold_above ts x ≤ threshold_above ts y
unfolding threshold_above
above_mono [] x y h = omega arith
above_mono (t ∷ ts) x y h = let rest : threshold_above ts x ≤ threshold_above ts y = above_mono ts x y h in grind (arith, nat_tests)

pub above_same : (ts : List ℕ) (x y : ℕ) → x ≤ y → y < threshold_above ts x → threshold_above ts y ≡ threshold_above ts x
unfolding threshold_above
above_same [] x y low high = omega arith
above_same (t ∷ ts) x y low high =
    let rest : y < threshold_above ts x → threshold_above ts y ≡ threshold_above ts x = λ l. above_same ts x y low l in
    elim (cases_lt x t) [
      | inl here ↦
          let high2 : y < min t (threshold_above ts x) = rw (lt-ltb x t here) at high in
          let at_y : y < t = omega arith in
          let e : threshold_above ts y ≡ threshold_above ts x = rest (omega arith) in
          rw (lt-ltb x t here, lt-ltb y t at_y, e) refl
      | inr past ↦
          let no_y : t ≤ y = omega arith in
          let high2 : y < threshold_above ts x = rw (le-ltb x t past) at high in
          rw (le-ltb x t past, le-ltb y t no_y) (rest high2)
    ]
