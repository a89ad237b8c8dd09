-- The step of words by the bits that are set in any of them.
use Rattle.std.proofs.Common.{◌≡◌, ℕ, zero, suc, ◌%◌, ◌<◌, refl, ap, ◌∙◌, arith, min, bit_or}
use Rattle.std.proofs.lemmas.Nat.{or_mod}
use Rattle.value_domain.specs.Sets.{alignment_log2}

table : (r q : ℕ) → r < 4 → q < 4 → alignment_log2 (bit_or r q) ≡ min (alignment_log2 r) (alignment_log2 q)
unfolding alignment_log2
table zero zero h k = refl
table zero (suc zero) h k = refl
table zero (suc (suc zero)) h k = refl
table zero (suc (suc (suc zero))) h k = refl
table zero (suc (suc (suc (suc q)))) h k = absurd (omega arith)
table (suc zero) zero h k = refl
table (suc zero) (suc zero) h k = refl
table (suc zero) (suc (suc zero)) h k = refl
table (suc zero) (suc (suc (suc zero))) h k = refl
table (suc zero) (suc (suc (suc (suc q)))) h k = absurd (omega arith)
table (suc (suc zero)) zero h k = refl
table (suc (suc zero)) (suc zero) h k = refl
table (suc (suc zero)) (suc (suc zero)) h k = refl
table (suc (suc zero)) (suc (suc (suc zero))) h k = refl
table (suc (suc zero)) (suc (suc (suc (suc q)))) h k = absurd (omega arith)
table (suc (suc (suc zero))) zero h k = refl
table (suc (suc (suc zero))) (suc zero) h k = refl
table (suc (suc (suc zero))) (suc (suc zero)) h k = refl
table (suc (suc (suc zero))) (suc (suc (suc zero))) h k = refl
table (suc (suc (suc zero))) (suc (suc (suc (suc q)))) h k = absurd (omega arith)
table (suc (suc (suc (suc r)))) q h k = absurd (omega arith)

alignment_log2-low : (x : ℕ) → alignment_log2 x ≡ alignment_log2 (x % 4)
unfolding alignment_log2
alignment_log2-low x =
    let four : x % 4 % 4 ≡ x % 4 = omega arith in
    let two : x % 4 % 2 ≡ x % 2 = omega arith in
    rw (four, two) refl

-- two divides a union of bits as often as it divides both
pub alignment_log2-or : (x y : ℕ) → alignment_log2 (bit_or x y) ≡ min (alignment_log2 x) (alignment_log2 y)
alignment_log2-or x y =
    let low : bit_or x y % 4 ≡ bit_or (x % 4) (y % 4) = or_mod x y 2 in
    alignment_log2-low (bit_or x y) ∙ ap alignment_log2 low ∙ table (x % 4) (y % 4) (omega arith) (omega arith) ∙ rw (← alignment_log2-low x, ← alignment_log2-low y) refl
