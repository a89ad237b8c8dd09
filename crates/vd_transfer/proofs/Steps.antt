-- Steps under the operations on words.
use Rattle.std.proofs.Common.{◌≡◌, ℕ, zero, suc, ◌+◌, ◌-◌, ◌*◌, ◌/◌, ◌%◌, ◌^◌, ◌≤◌, ap, ◌∙◌, arith, min, max, bit_and}
use Rattle.std.proofs.Math.Nat.{pow-suc}
use Rattle.std.proofs.lemmas.Nat.{and_mod, and_comm, and_le_l}
use Rattle.value_domain.specs.Sets.{alignment_log2}
use Rattle.value_domain.proofs.CoverLaws.{step_cases, in_units, from_units}

pub twos_add : (s : ℕ) → s ≤ 2 → (x y : ℕ) → s ≤ alignment_log2 x → s ≤ alignment_log2 y → s ≤ alignment_log2 (x + y)
twos_add =
    step_cases (λ s. (x y : ℕ) → s ≤ alignment_log2 x → s ≤ alignment_log2 y → s ≤ alignment_log2 (x + y))
    (λ x y h k. omega arith)
    (λ x y h k. let a = in_units 1 (omega arith) x h in let b = in_units 1 (omega arith) y k in from_units 1 (omega arith) (x / 2 + y / 2) (x + y) (omega arith))
    (λ x y h k. let a = in_units 2 (omega arith) x h in let b = in_units 2 (omega arith) y k in from_units 2 (omega arith) (x / 4 + y / 4) (x + y) (omega arith))

pub twos_sub : (s : ℕ) → s ≤ 2 → (x y : ℕ) → s ≤ alignment_log2 x → s ≤ alignment_log2 y → s ≤ alignment_log2 (x - y)
twos_sub =
    step_cases (λ s. (x y : ℕ) → s ≤ alignment_log2 x → s ≤ alignment_log2 y → s ≤ alignment_log2 (x - y))
    (λ x y h k. omega arith)
    (λ x y h k. let a = in_units 1 (omega arith) x h in let b = in_units 1 (omega arith) y k in from_units 1 (omega arith) (x / 2 - y / 2) (x - y) (omega arith))
    (λ x y h k. let a = in_units 2 (omega arith) x h in let b = in_units 2 (omega arith) y k in from_units 2 (omega arith) (x / 4 - y / 4) (x - y) (omega arith))

pub twos_mod : (s : ℕ) → s ≤ 2 → (x : ℕ) → s ≤ alignment_log2 x → s ≤ alignment_log2 (x % 2 ^ 32)
twos_mod =
    step_cases (λ s. (x : ℕ) → s ≤ alignment_log2 x → s ≤ alignment_log2 (x % 2 ^ 32))
    (λ x h. omega arith)
    (λ x h. let a = in_units 1 (omega arith) x h in from_units 1 (omega arith) (x % 2 ^ 32 / 2) (x % 2 ^ 32) (omega arith))
    (λ x h. let a = in_units 2 (omega arith) x h in from_units 2 (omega arith) (x % 2 ^ 32 / 4) (x % 2 ^ 32) (omega arith))

and_zero : (y k : ℕ) → bit_and 0 y ≡ 0
and_zero y k = omega (arith, and_le_l 0 y)

-- a multiple of 2 ^ s stays one under a mask
pub twos_and : (s : ℕ) → s ≤ 2 → (x y : ℕ) → s ≤ alignment_log2 x → s ≤ alignment_log2 (bit_and x y)
twos_and =
    step_cases (λ s. (x y : ℕ) → s ≤ alignment_log2 x → s ≤ alignment_log2 (bit_and x y))
    (λ x y h. omega arith)
    (λ x y h. low_bits 1 (omega arith) x y (let a = in_units 1 (omega arith) x h in omega arith))
    (λ x y h. low_bits 2 (omega arith) x y (let a = in_units 2 (omega arith) x h in omega arith))
  where
    from_rest : (s : ℕ) → s ≤ 2 → (x : ℕ) → x % 2 ^ s ≡ 0 → s ≤ alignment_log2 x
    from_rest =
        step_cases (λ s. (x : ℕ) → x % 2 ^ s ≡ 0 → s ≤ alignment_log2 x)
        (λ x h. omega arith)
        (λ x h. from_units 1 (omega arith) (x / 2) x (omega arith))
        (λ x h. from_units 2 (omega arith) (x / 4) x (omega arith))

    low_bits : (s : ℕ) → s ≤ 2 → (x y : ℕ) → x % 2 ^ s ≡ 0 → s ≤ alignment_log2 (bit_and x y)
    low_bits s small x y e =
        let m : bit_and x y % 2 ^ s ≡ bit_and 0 (y % 2 ^ s) = and_mod x y s ∙ ap (λ n. bit_and n (y % 2 ^ s)) e in
        let z : bit_and x y % 2 ^ s ≡ 0 = m ∙ and_zero (y % 2 ^ s) s in
        from_rest s small (bit_and x y) z

pub twos_and_both : (x y p q : ℕ) → p ≤ 2 → q ≤ 2 → p ≤ alignment_log2 x → q ≤ alignment_log2 y → max p q ≤ alignment_log2 (bit_and x y)
twos_and_both x y p q sp sq h k =
    let a : p ≤ alignment_log2 (bit_and x y) = twos_and p sp x y h in
    let b : q ≤ alignment_log2 (bit_and x y) = rw (and_comm x y) (twos_and q sq y x k) in
    omega arith

-- a shift to the left adds to the step
pub twos_shift : (n p x : ℕ) → p ≤ 2 → p ≤ alignment_log2 x → min 2 (p + n) ≤ alignment_log2 (x * 2 ^ n)
twos_shift zero p x small h = let e : x * 2 ^ zero ≡ x = omega arith in rw e (omega arith)
twos_shift (suc zero) p x small h = by_two (min 2 (p + 1)) (omega arith) x (omega arith)
  where
    by_two : (s : ℕ) → s ≤ 2 → (x : ℕ) → s ≤ alignment_log2 x + 1 → s ≤ alignment_log2 (x * 2 ^ suc zero)
    by_two =
        step_cases (λ s. (x : ℕ) → s ≤ alignment_log2 x + 1 → s ≤ alignment_log2 (x * 2 ^ suc zero))
        (λ x h. omega arith)
        (λ x h. from_units 1 (omega arith) x (x * 2) (omega arith))
        (λ x h. let a = in_units 1 (omega arith) x (omega arith) in from_units 2 (omega arith) (x / 2) (x * 2) (omega arith))
twos_shift (suc (suc n)) p x small h =
    let four : x * 2 ^ suc (suc n) ≡ x * 2 ^ n * 2 ^ 2 = rw (pow-suc 2 (suc n), pow-suc 2 n) (omega arith) in
    let t : 2 ≤ alignment_log2 (x * 2 ^ suc (suc n)) = from_units 2 (omega arith) (x * 2 ^ n) (x * 2 ^ suc (suc n)) four in
    omega arith
