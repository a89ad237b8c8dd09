-- The 64 bytes of a save area inside a page.
use Rattle.std.proofs.Common.{◌≡◌, ◌≢◌, ◌+◌, ◌-◌, ◌*◌, ◌/◌, ◌%◌, ◌^◌, ◌<◌, ◌≤◌, ◌==◌, ℕ, zero, suc, Bool, true, false, cond, List, [], ◌∷◌, length, get_or, All, Option, Some, None, refl, sym, ap, ◌∙◌, arith, inl, inr, add-zero, add_assoc}
use Rattle.std.specs.Prelude.{is_some, unwrap_or}
use Rattle.std.specs.Int.{bit_at}
use Rattle.std.specs.FinMap as finite
use Rattle.std.proofs.lemmas.Bool.{cases_eq, eqb-true, eq-eqb, ne_eqb}
use Rattle.std.proofs.lemmas.Nat.Bits.{bit_at_ones, same_from_bits_below}
use Rattle.csa_chain.specs.MemoryBytes.{Memory, is_mapped, byte_at, are_mapped, word_at, memory_words_at}
use Rattle.csa_chain.proofs.ChainLaws.{are_mapped_each, are_mapped_from}
use Rattle.tcd_base.specs.Bytes.{word_in_bytes as word_in}
use Rattle.tc_mem.specs.Pages.{is_page_bit_set, memory_of, AreOrderedPages, page_number_of}
use Rattle.tc_mem.specs.declared.page.Page.{Page}
use Rattle.tc_mem.proofs.Search.{no_page}
use Rattle.tc_mem.proofs.Mapped.{byte_of_same, get-memory_of, byte_in_none}
use Rattle.tc_mem.proofs.Stored.{IsAt, get_found, mapped_found}

pub clash : true ≡ false → ⊥
clash e = cc

pub not_true : (b : Bool) → (b ≡ true → ⊥) → b ≡ false
not_true true h = absurd (h refl)
not_true false h = refl

-- an address in a page
low : (n j : ℕ) → j < 4096 → (n * 4096 + j) % 4096 ≡ j
low n j lt = omega arith

high : (n j : ℕ) → j < 4096 → n ≡ (n * 4096 + j) / 4096
high n j lt = omega arith

-- a byte of a page: its bit says if it is mapped
pub mapped_at : (ps : List Page) (i n j : ℕ) → IsAt ps i n → j < 4096 → is_mapped (memory_of ps) (n * 4096 + j) ≡ is_page_bit_set (get_or ps i no_page).mapped j
mapped_at ps i n j at lt = mapped_found (n * 4096 + j) ps i at.pages at.within (at.number ∙ high n j lt) ∙ ap (is_page_bit_set (get_or ps i no_page).mapped) (low n j lt)

pub byte_at_is : (ps : List Page) (i n j : ℕ) → IsAt ps i n → j < 4096 → is_page_bit_set (get_or ps i no_page).mapped j ≡ true → byte_at (memory_of ps) (n * 4096 + j) ≡ get_or (get_or ps i no_page).bytes j 0
byte_at_is ps i n j at lt here =
    let p : Page = get_or ps i no_page in
    let number = at.number ∙ high n j lt in
    ap (λ (o : Option ℕ). unwrap_or o 0) (get_found (n * 4096 + j) ps i at.pages at.within number ∙ byte_of_same (n * 4096 + j) p number)
    ∙ ap (λ (k : ℕ). unwrap_or (cond (is_page_bit_set p.mapped k) (Some (get_or p.bytes k 0)) None) 0) (low n j lt)
    ∙ ap (λ (t : Bool). unwrap_or (cond t (Some (get_or p.bytes j 0)) None) 0) here

-- a word of a page
pub word_at_is : (ps : List Page) (i n o : ℕ) → IsAt ps i n → o + 4 ≤ 4096 → ((k : ℕ) → k < 4 → is_page_bit_set (get_or ps i no_page).mapped (o + k) ≡ true) → word_at (memory_of ps) (n * 4096 + o) ≡ word_in (get_or ps i no_page).bytes o
unfolding word_at
word_at_is ps i n o at lt here =
    let a1 : n * 4096 + (o + 1) ≡ n * 4096 + o + 1 = omega arith in
    let a2 : n * 4096 + (o + 2) ≡ n * 4096 + o + 2 = omega arith in
    let a3 : n * 4096 + (o + 3) ≡ n * 4096 + o + 3 = omega arith in
    let e0 = byte_at_is ps i n o at (omega arith) (rw add-zero at (here 0 (omega arith))) in
    let e1 = rw a1 at (byte_at_is ps i n (o + 1) at (omega arith) (here 1 (omega arith))) in
    let e2 = rw a2 at (byte_at_is ps i n (o + 2) at (omega arith) (here 2 (omega arith))) in
    let e3 = rw a3 at (byte_at_is ps i n (o + 3) at (omega arith) (here 3 (omega arith))) in
    omega arith

-- words one after another
pub words_are : (m : Memory) (x : ℕ) (ws : List ℕ) (n : ℕ) → length ws ≡ n → ((k : ℕ) → k < n → get_or ws k 0 ≡ word_at m (x + 4 * k)) → ws ≡ memory_words_at m x n
unfolding memory_words_at
words_are m x [] zero size each = refl
words_are m x [] (suc n) size each = absurd (omega arith)
words_are m x (w ∷ ws) zero size each = absurd (omega arith)
words_are m x (w ∷ ws) (suc n) size each =
    let first : w ≡ word_at m x = rw add-zero at (each zero (omega arith)) in
    let rest = words_are m (x + 4) ws n (omega arith) (λ k h. each (suc k) (omega arith) ∙ ap (word_at m) (let e : x + 4 * suc k ≡ x + 4 + 4 * k = omega arith in e)) in
    rw (first, rest) refl

-- ---- the bits of an area: one word
bit_place : (o j : ℕ) → o % 64 ≡ 0 → j < 64 → (o + j) / 64 ≡ o / 64
bit_place o j aligned lt = omega arith

bit_number : (o j : ℕ) → o % 64 ≡ 0 → j < 64 → (o + j) % 64 ≡ j
bit_number o j aligned lt = omega arith

bit_is : (mapped : List ℕ) (o j : ℕ) → o % 64 ≡ 0 → j < 64 → is_page_bit_set mapped (o + j) ≡ (bit_at (get_or mapped (o / 64) 0) j == 1)
bit_is mapped o j aligned lt =
    ap (λ (k : ℕ). bit_at (get_or mapped k 0) ((o + j) % 64) == 1) (bit_place o j aligned lt)
    ∙ ap (λ (k : ℕ). bit_at (get_or mapped (o / 64) 0) k == 1) (bit_number o j aligned lt)

pub all_set : (mapped : List ℕ) (o : ℕ) → o % 64 ≡ 0 → get_or mapped (o / 64) 0 ≡ 2 ^ 64 - 1 → (j : ℕ) → j < 64 → is_page_bit_set mapped (o + j) ≡ true
all_set mapped o aligned full j lt =
    bit_is mapped o j aligned lt
    ∙ ap (λ (w : ℕ). bit_at w j == 1) full
    ∙ eq-eqb (bit_at (2 ^ 64 - 1) j) 1 (bit_at_ones 64 j lt)

pub set_all : (mapped : List ℕ) (o : ℕ) → o % 64 ≡ 0 → get_or mapped (o / 64) 0 < 2 ^ 64 → ((j : ℕ) → j < 64 → is_page_bit_set mapped (o + j) ≡ true) → get_or mapped (o / 64) 0 ≡ 2 ^ 64 - 1
set_all mapped o aligned fits each =
    same_from_bits_below 64 (get_or mapped (o / 64) 0) (2 ^ 64 - 1) fits (omega arith) (λ j lt.
    eqb-true (bit_at (get_or mapped (o / 64) 0) j) 1 (sym (bit_is mapped o j aligned lt) ∙ each j lt) ∙ sym (bit_at_ones 64 j lt))

-- an area is mapped if the word of its bits is all ones
pub area_mapped : (ps : List Page) (i n o : ℕ) → IsAt ps i n → o % 64 ≡ 0 → o < 4096 → get_or (get_or ps i no_page).mapped (o / 64) 0 < 2 ^ 64 → are_mapped (memory_of ps) (n * 4096 + o) 64 ≡ (get_or (get_or ps i no_page).mapped (o / 64) 0 == 2 ^ 64 - 1)
area_mapped ps i n o at aligned lt fits =
    elim (cases_eq (get_or (get_or ps i no_page).mapped (o / 64) 0) (2 ^ 64 - 1)) [
      | inl full ↦
          are_mapped_from (memory_of ps) (n * 4096 + o) 64 (λ j h. ap (is_mapped (memory_of ps)) (add_assoc (n * 4096) o j) ∙ mapped_at ps i n (o + j) at (omega arith) ∙ all_set (get_or ps i no_page).mapped o aligned full j h)
          ∙ sym (eq-eqb (get_or (get_or ps i no_page).mapped (o / 64) 0) (2 ^ 64 - 1) full)
      | inr less ↦
          not_true (are_mapped (memory_of ps) (n * 4096 + o) 64) (λ all. less (set_all (get_or ps i no_page).mapped o aligned fits (λ j h.
          sym (mapped_at ps i n (o + j) at (omega arith)) ∙ ap (is_mapped (memory_of ps)) (sym (add_assoc (n * 4096) o j)) ∙ are_mapped_each (memory_of ps) (n * 4096 + o) 64 all j h)))
          ∙ sym (ne_eqb (get_or (get_or ps i no_page).mapped (o / 64) 0) (2 ^ 64 - 1) less)
    ]

-- if no page has the number, nothing is mapped
pub get_none : (ps : List Page) (a : ℕ) → AreOrderedPages ps → All (λ p. page_number_of p ≢ a / 4096) ps → finite.get (memory_of ps) a ≡ None
get_none ps a pages none = get-memory_of ps a pages.whole ∙ byte_in_none a ps none

pub area_none : (ps : List Page) (a : ℕ) → AreOrderedPages ps → All (λ p. page_number_of p ≢ a / 4096) ps → are_mapped (memory_of ps) a 64 ≡ false
area_none ps a pages none =
    not_true (are_mapped (memory_of ps) a 64) (λ all.
    let first : is_mapped (memory_of ps) a ≡ true = rw add-zero at (are_mapped_each (memory_of ps) a 64 all 0 (omega arith)) in
    let gone : is_mapped (memory_of ps) a ≡ false = ap is_some (get_none ps a pages none) in
    clash (sym first ∙ gone))
