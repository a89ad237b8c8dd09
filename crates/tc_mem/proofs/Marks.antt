-- A bit that is set.
use Rattle.std.proofs.Common.{◌≡◌, ◌≢◌, ◌*◌, ◌/◌, ◌%◌, ◌^◌, ◌+◌, ◌-◌, ◌<◌, ◌≤◌, ◌==◌, ◌||◌, ◌&&◌, ℕ, nat_le, nat_lt, Bool, true, false, List, length, get_or, set, replicate, bit_or, inl, inr, refl, sym, ap, ◌∙◌, arith}
use Rattle.std.specs.Int.{bit_at, w64}
use Rattle.std.proofs.lemmas.Bool.{cases_eq, cases_lt, eq-eqb, ne_eqb, le-leb, lt-leb, lt-ltb, le-ltb}
use Rattle.std.proofs.lemmas.List.{get_or-set_same, get_or-set_other, get_or-replicate}
use Rattle.std.proofs.lemmas.Nat.Bits.{bit_at_set_same, bit_at_set_other, bit_at-zero, bit_at_ones}
use Rattle.tc_mem.specs.Pages.{is_page_bit_set}

or_true : (b : Bool) → (b || true) ≡ true
or_true true = refl
or_true false = refl

or_false : (b : Bool) → (b || false) ≡ b
or_false true = refl
or_false false = refl

-- the bit of an offset is set, and all others stay
pub is_set-marked : (ms : List ℕ) (o k : ℕ) → length ms ≡ 64 → o < 4096 → is_page_bit_set (set ms (o / 64) (bit_or (get_or ms (o / 64) 0) (1 * 2 ^ (o % 64) % 2 ^ 64))) k ≡ (is_page_bit_set ms k || (k == o))
is_set-marked ms o k size lt =
    let new : ℕ = bit_or (get_or ms (o / 64) 0) (1 * 2 ^ (o % 64) % 2 ^ 64) in
    let in_word : o % 64 < 64 = omega arith in
    let in_list : o / 64 < length ms = omega arith in
    elim (cases_eq k o) [
      | inl same ↦
          ap (is_page_bit_set (set ms (o / 64) new)) same
          ∙ ap (λ (w : ℕ). bit_at w (o % 64) == 1) (get_or-set_same ms (o / 64) new 0 in_list)
          ∙ eq-eqb (bit_at new (o % 64)) 1 (bit_at_set_same w64 (get_or ms (o / 64) 0) (o % 64) in_word)
          ∙ sym (or_true (is_page_bit_set ms k))
          ∙ ap (λ (t : Bool). is_page_bit_set ms k || t) (sym (eq-eqb k o same))
      | inr other ↦
          elim (cases_eq (k / 64) (o / 64)) [
            | inl word ↦
                let apart : k % 64 ≢ o % 64 = λ e. other (omega arith) in
                ap (λ (i : ℕ). bit_at (get_or (set ms (o / 64) new) i 0) (k % 64) == 1) word
                ∙ ap (λ (w : ℕ). bit_at w (k % 64) == 1) (get_or-set_same ms (o / 64) new 0 in_list)
                ∙ ap (λ (b : ℕ). b == 1) (bit_at_set_other w64 (get_or ms (o / 64) 0) (o % 64) in_word (k % 64) apart)
                ∙ ap (λ (i : ℕ). bit_at (get_or ms i 0) (k % 64) == 1) (sym word)
            | inr words ↦ ap (λ (w : ℕ). bit_at w (k % 64) == 1) (get_or-set_other ms (o / 64) (k / 64) new 0 words)
          ]
          ∙ sym (or_false (is_page_bit_set ms k))
          ∙ ap (λ (t : Bool). is_page_bit_set ms k || t) (sym (ne_eqb k o other))
    ]

-- no bit is set in zeros
pub is_set-zeros : (k : ℕ) → k < 4096 → is_page_bit_set (replicate 64 0) k ≡ false
is_set-zeros k lt =
    ap (λ (w : ℕ). bit_at w (k % 64) == 1) (get_or-replicate 64 (k / 64) 0 0 (omega arith))
    ∙ ap (λ (b : ℕ). b == 1) (bit_at-zero (k % 64))

-- each bit is set in a page that is wholly mapped
pub is_set-ones : (k : ℕ) → k < 4096 → is_page_bit_set (replicate 64 (2 ^ 64 - 1)) k ≡ true
is_set-ones k lt =
    ap (λ (w : ℕ). bit_at w (k % 64) == 1) (get_or-replicate 64 (k / 64) (2 ^ 64 - 1) 0 (omega arith))
    ∙ eq-eqb (bit_at (2 ^ 64 - 1) (k % 64)) 1 (bit_at_ones 64 (k % 64) (omega arith))

-- ---- a whole word of bits
or_one : (b c : Bool) → c ≡ true → true ≡ (b || c)
or_one b c is = rw is (sym (or_true b))

-- an offset inside the word of bits
within_word : (o k : ℕ) → o % 64 ≡ 0 → k / 64 ≡ o / 64 → (nat_le o k && nat_lt k (o + 64)) ≡ true
within_word o k aligned same =
    let low : nat_le o k ≡ true = le-leb o k (omega arith) in
    let high : nat_lt k (o + 64) ≡ true = lt-ltb k (o + 64) (omega arith) in
    rw (low, high) refl

-- an offset outside the word of bits
beside_word : (o k : ℕ) → o % 64 ≡ 0 → k / 64 ≢ o / 64 → (nat_le o k && nat_lt k (o + 64)) ≡ false
beside_word o k aligned other =
    elim (cases_lt k o) [
      | inl below ↦ let low : nat_le o k ≡ false = lt-leb o k below in rw low refl
      | inr above ↦
          let low : nat_le o k ≡ true = le-leb o k above in
          let high : nat_lt k (o + 64) ≡ false = le-ltb k (o + 64) (omega (arith, other)) in
          rw (low, high) refl
    ]

-- the bits of a word are set, and all others stay
pub is_set-filled : (ms : List ℕ) (o k : ℕ) → length ms ≡ 64 → o % 64 ≡ 0 → o < 4096 → is_page_bit_set (set ms (o / 64) (2 ^ 64 - 1)) k ≡ (is_page_bit_set ms k || (nat_le o k && nat_lt k (o + 64)))
is_set-filled ms o k size aligned lt =
    let in_list : o / 64 < length ms = omega arith in
    elim (cases_eq (k / 64) (o / 64)) [
      | inl word ↦
          ap (λ (i : ℕ). bit_at (get_or (set ms (o / 64) (2 ^ 64 - 1)) i 0) (k % 64) == 1) word
          ∙ ap (λ (w : ℕ). bit_at w (k % 64) == 1) (get_or-set_same ms (o / 64) (2 ^ 64 - 1) 0 in_list)
          ∙ eq-eqb (bit_at (2 ^ 64 - 1) (k % 64)) 1 (bit_at_ones 64 (k % 64) (omega arith))
          ∙ or_one (is_page_bit_set ms k) (nat_le o k && nat_lt k (o + 64)) (within_word o k aligned word)
      | inr words ↦
          ap (λ (w : ℕ). bit_at w (k % 64) == 1) (get_or-set_other ms (o / 64) (k / 64) (2 ^ 64 - 1) 0 words)
          ∙ sym (or_false (is_page_bit_set ms k))
          ∙ ap (λ (t : Bool). is_page_bit_set ms k || t) (sym (beside_word o k aligned words))
    ]

-- all bits are set, which are those from the first offset on to the last one
pub is_set-whole : (ms new : List ℕ) (from to k : ℕ) → to - from ≡ 4096 → to ≤ 4096 → k < 4096 → is_page_bit_set new k ≡ true → is_page_bit_set new k ≡ (is_page_bit_set ms k || (nat_le from k && nat_lt k to))
is_set-whole ms new from to k whole within lt set =
    let low : nat_le from k ≡ true = le-leb from k (omega arith) in
    let high : nat_lt k to ≡ true = lt-ltb k to (omega arith) in
    set ∙ or_one (is_page_bit_set ms k) (nat_le from k && nat_lt k to) (rw (low, high) refl)
