-- Words and halfwords of a page, inside one block of 64 bytes, as those of the memory.
use Rattle.std.proofs.Common.{◌≡◌, ◌≢◌, ◌+◌, ◌-◌, ◌*◌, ◌/◌, ◌%◌, ◌^◌, ◌<◌, ◌≤◌, ◌==◌, ◌&&◌, ℕ, Bool, true, false, cond, List, [], ◌∷◌, length, get_or, set, All, Option, Some, None, refl, sym, ap, ◌∙◌, arith, nat_le, add-zero, length-set, inl, inr}
use Rattle.std.specs.Prelude.{is_some, IfSome}
use Rattle.std.specs.Int.{bit_at}
use Rattle.std.proofs.lemmas.Bool.{cases_eq, eqb-true, eq-eqb, ne_eqb, le-leb}
use Rattle.std.proofs.lemmas.Nat.{pow_pos, pow-add, div-add-mod'}
use Rattle.std.proofs.lemmas.Nat.Bits.{bit_at_ones, bit_at_cat_low, same_from_bits_below}
use Rattle.std.proofs.Math.Nat.{div-div-eq-div-mul, mod-lt}
use Rattle.std.proofs.lemmas.List.{set-get_or}
use Rattle.csa_chain.specs.MemoryBytes.{Memory, is_mapped, byte_at, are_mapped, word_at, with_word, with_words}
use Rattle.csa_chain.proofs.ChainLaws.{are_mapped_each, are_mapped_from}
use Rattle.tcd_base.specs.Bytes.{word_in_bytes as word_in, half_in_bytes as half_in}
use Rattle.tc_mem.specs.Blocks.{are_mapped_in_block, mapped_word_in_block, memory_half_at, mapped_half_in_block, with_word_in_block, with_half_in_block, with_half}
use Rattle.tc_mem.specs.Areas.{area_first_word}
use Rattle.tc_mem.specs.Pages.{is_page_bit_set, are_page_bits_set, memory_of, page_bytes_with_words, AreOrderedPages, page_number_of}
use Rattle.tc_mem.specs.declared.page.Page.{Page}
use Rattle.tc_mem.proofs.Search.{no_page}
use Rattle.tc_mem.proofs.Stored.{IsAt, changed, step, page_at, memory_of-words}
use Rattle.tc_mem.proofs.AreaLaws.{clash, not_true, mapped_at, byte_at_is, word_at_is, get_none, area_none, all_set}
use Rattle.tc_mem.proofs.Accesses.{put_in, IsArea, area_is}

-- ---- the bits of n bytes
bit_shift : (w s j : ℕ) → bit_at w (s + j) ≡ bit_at (w / 2 ^ s) j
bit_shift w s j = ap (λ (d : ℕ). w / d % 2) (pow-add 2 s j) ∙ ap (λ (q : ℕ). q % 2) (sym (div-div-eq-div-mul w (2 ^ s) (2 ^ j)))

bit_low : (x n i : ℕ) → i < n → bit_at (x % 2 ^ n) i ≡ bit_at x i
bit_low x n i lt = sym (bit_at_cat_low (x / 2 ^ n) n (x % 2 ^ n) i lt) ∙ ap (λ (y : ℕ). bit_at y i) (div-add-mod' x (2 ^ n))

less_one : (p : ℕ) → 0 < p → p - 1 < p
less_one p h = omega arith

bits_all : (w s n : ℕ) → ((j : ℕ) → j < n → bit_at w (s + j) ≡ 1) → w / 2 ^ s % 2 ^ n ≡ 2 ^ n - 1
bits_all w s n each =
    same_from_bits_below n (w / 2 ^ s % 2 ^ n) (2 ^ n - 1) (mod-lt (w / 2 ^ s) (pow_pos n)) (less_one (2 ^ n) (pow_pos n)) (λ j lt.
    bit_low (w / 2 ^ s) n j lt ∙ sym (bit_shift w s j) ∙ each j lt ∙ sym (bit_at_ones n j lt))

all_bits : (w s n : ℕ) → w / 2 ^ s % 2 ^ n ≡ 2 ^ n - 1 → (j : ℕ) → j < n → bit_at w (s + j) ≡ 1
all_bits w s n e j lt = bit_shift w s j ∙ sym (bit_low (w / 2 ^ s) n j lt) ∙ ap (λ (x : ℕ). bit_at x j) e ∙ bit_at_ones n j lt

bit_place : (o n j : ℕ) → o % 64 + n ≤ 64 → j < n → (o + j) / 64 ≡ o / 64
bit_place o n j fits lt = omega arith

bit_number : (o n j : ℕ) → o % 64 + n ≤ 64 → j < n → (o + j) % 64 ≡ o % 64 + j
bit_number o n j fits lt = omega arith

set_is : (mapped : List ℕ) (o n j : ℕ) → o % 64 + n ≤ 64 → j < n → is_page_bit_set mapped (o + j) ≡ (bit_at (get_or mapped (o / 64) 0) (o % 64 + j) == 1)
set_is mapped o n j fits lt =
    ap (λ (k : ℕ). bit_at (get_or mapped k 0) ((o + j) % 64) == 1) (bit_place o n j fits lt)
    ∙ ap (λ (k : ℕ). bit_at (get_or mapped (o / 64) 0) k == 1) (bit_number o n j fits lt)

-- if n bits are set, each of them is
pub set_each : (n : ℕ) (mapped : List ℕ) (o : ℕ) → o % 64 + n ≤ 64 → are_page_bits_set n mapped o ≡ true → (j : ℕ) → j < n → is_page_bit_set mapped (o + j) ≡ true
set_each n mapped o fits all j lt =
    set_is mapped o n j fits lt
    ∙ eq-eqb (bit_at (get_or mapped (o / 64) 0) (o % 64 + j)) 1 (all_bits (get_or mapped (o / 64) 0) (o % 64) n (eqb-true (get_or mapped (o / 64) 0 / 2 ^ (o % 64) % 2 ^ n) (2 ^ n - 1) all) j lt)

each_set : (n : ℕ) (mapped : List ℕ) (o : ℕ) → o % 64 + n ≤ 64 → ((j : ℕ) → j < n → is_page_bit_set mapped (o + j) ≡ true) → get_or mapped (o / 64) 0 / 2 ^ (o % 64) % 2 ^ n ≡ 2 ^ n - 1
each_set n mapped o fits each =
    bits_all (get_or mapped (o / 64) 0) (o % 64) n (λ j lt. eqb-true (bit_at (get_or mapped (o / 64) 0) (o % 64 + j)) 1 (sym (set_is mapped o n j fits lt) ∙ each j lt))

-- ---- whether n bytes of a page are mapped: their bits say so
place : (a : ℕ) → a / 4096 * 4096 + a % 4096 ≡ a
place a = omega arith

place_on : (a j : ℕ) → a / 4096 * 4096 + (a % 4096 + j) ≡ a + j
place_on a j = omega arith

low_fits : (a n : ℕ) → a % 64 + n ≤ 64 → a % 4096 % 64 + n ≤ 64
low_fits a n h = omega arith

pub page_fits : (a n : ℕ) → a % 64 + n ≤ 64 → a % 4096 + n ≤ 4096
page_fits a n h = omega arith

module _ (ps : List Page) (i a n : ℕ) (at : IsAt ps i (a / 4096)) (fits : a % 64 + n ≤ 64) where
  mapped_there : (j : ℕ) → j < n → is_mapped (memory_of ps) (a + j) ≡ is_page_bit_set (get_or ps i no_page).mapped (a % 4096 + j)
  mapped_there j lt =
      let within = page_fits a n fits in
      ap (is_mapped (memory_of ps)) (sym (place_on a j)) ∙ mapped_at ps i (a / 4096) (a % 4096 + j) at (omega arith)

  pub block_mapped : are_page_bits_set n (get_or ps i no_page).mapped (a % 4096) ≡ are_mapped (memory_of ps) a n
  block_mapped =
      let mapped : List ℕ = (get_or ps i no_page).mapped in
      elim (cases_eq (get_or mapped (a % 4096 / 64) 0 / 2 ^ (a % 4096 % 64) % 2 ^ n) (2 ^ n - 1)) [
        | inl full ↦
            eq-eqb (get_or mapped (a % 4096 / 64) 0 / 2 ^ (a % 4096 % 64) % 2 ^ n) (2 ^ n - 1) full
            ∙ sym (are_mapped_from (memory_of ps) a n (λ j lt. mapped_there j lt ∙ set_each n mapped (a % 4096) (low_fits a n fits) (eq-eqb (get_or mapped (a % 4096 / 64) 0 / 2 ^ (a % 4096 % 64) % 2 ^ n) (2 ^ n - 1) full) j lt))
        | inr less ↦
            ne_eqb (get_or mapped (a % 4096 / 64) 0 / 2 ^ (a % 4096 % 64) % 2 ^ n) (2 ^ n - 1) less
            ∙ sym (not_true (are_mapped (memory_of ps) a n) (λ all. less (each_set n mapped (a % 4096) (low_fits a n fits) (λ j lt. sym (mapped_there j lt) ∙ are_mapped_each (memory_of ps) a n all j lt))))
      ]

  pub block_is : are_page_bits_set n (get_or ps i no_page).mapped (a % 4096) ≡ are_mapped_in_block (memory_of ps) a n
  block_is = block_mapped ∙ ap (λ (t : Bool). t && are_mapped (memory_of ps) a n) (sym (le-leb (a % 64 + n) 64 fits))

  -- a write of other bytes into the page, if these are mapped
  pub block_written : (bytes : List ℕ) (new : Memory) → (are_page_bits_set n (get_or ps i no_page).mapped (a % 4096) ≡ true → memory_of (changed ps i bytes) ≡ new) → (t : Bool) → t ≡ are_page_bits_set n (get_or ps i no_page).mapped (a % 4096) →
      memory_of (set ps i (put_in (get_or ps i no_page) t bytes)) ≡ cond (are_mapped_in_block (memory_of ps) a n) new (memory_of ps)
  block_written bytes new is true here = is (sym here) ∙ ap (λ (t : Bool). cond t new (memory_of ps)) (here ∙ block_is)
  block_written bytes new is false gone = ap memory_of (set-get_or ps i no_page) ∙ ap (λ (t : Bool). cond t new (memory_of ps)) (gone ∙ block_is)

and_false : (b : Bool) → (b && false) ≡ false
and_false true = refl
and_false false = refl

-- no page has the number
none_mapped : (ps : List Page) (a n : ℕ) → AreOrderedPages ps → All (λ p. page_number_of p ≢ a / 4096) ps → 0 < n → are_mapped (memory_of ps) a n ≡ false
none_mapped ps a n pages none some =
    not_true (are_mapped (memory_of ps) a n) (λ all.
    let first : is_mapped (memory_of ps) a ≡ true = rw add-zero at (are_mapped_each (memory_of ps) a n all 0 some) in
    let gone : is_mapped (memory_of ps) a ≡ false = ap is_some (get_none ps a pages none) in
    clash (sym first ∙ gone))

pub block_none : (ps : List Page) (a n : ℕ) → AreOrderedPages ps → All (λ p. page_number_of p ≢ a / 4096) ps → 0 < n → are_mapped_in_block (memory_of ps) a n ≡ false
block_none ps a n pages none some = ap (λ (t : Bool). nat_le (a % 64 + n) 64 && t) (none_mapped ps a n pages none some) ∙ and_false (nat_le (a % 64 + n) 64)

-- ---- words
module _ (ps : List Page) (i a : ℕ) (at : IsAt ps i (a / 4096)) (fits : a % 64 + 4 ≤ 64) where
  pub word_found : (r : Option ℕ) → is_some r ≡ are_page_bits_set 4 (get_or ps i no_page).mapped (a % 4096) → IfSome r (λ w. w ≡ word_in (get_or ps i no_page).bytes (a % 4096)) → r ≡ mapped_word_in_block (memory_of ps) a
  word_found None is each = ap (λ (t : Bool). cond {A = Option ℕ} t (Some (word_at (memory_of ps) a)) None) (is ∙ block_is ps i a 4 at fits)
  word_found (Some w) is each =
      let there : w ≡ word_at (memory_of ps) a =
      each
      ∙ sym (word_at_is ps i (a / 4096) (a % 4096) at (page_fits a 4 fits) (set_each 4 (get_or ps i no_page).mapped (a % 4096) (low_fits a 4 fits) (sym is)))
      ∙ ap (word_at (memory_of ps)) (place a) in
      ap (λ (x : ℕ). Some x) there ∙ ap (λ (t : Bool). cond {A = Option ℕ} t (Some (word_at (memory_of ps) a)) None) (is ∙ block_is ps i a 4 at fits)

  one_word : (m : Memory) (x w : ℕ) → with_words m x (w ∷ []) ≡ with_word m x w
  unfolding with_words
  one_word m x w = refl

  pub word_written : (w : ℕ) (t : Bool) → t ≡ are_page_bits_set 4 (get_or ps i no_page).mapped (a % 4096) →
      memory_of (set ps i (put_in (get_or ps i no_page) t (page_bytes_with_words (get_or ps i no_page).bytes (a % 4096) (w ∷ [])))) ≡ with_word_in_block (memory_of ps) a w
  word_written w t is =
      block_written ps i a 4 at fits (page_bytes_with_words (get_or ps i no_page).bytes (a % 4096) (w ∷ [])) (with_word (memory_of ps) a w) (λ full.
      memory_of-words ps i (a / 4096) (a % 4096) (w ∷ []) at (page_fits a 4 fits) (set_each 4 (get_or ps i no_page).mapped (a % 4096) (low_fits a 4 fits) full)
      ∙ one_word (memory_of ps) (a / 4096 * 4096 + a % 4096) w ∙ ap (λ (x : ℕ). with_word (memory_of ps) x w) (place a)) t is

-- ---- halfwords
module _ (ps : List Page) (i a : ℕ) (at : IsAt ps i (a / 4096)) (fits : a % 64 + 2 ≤ 64) where
  two_set : are_page_bits_set 2 (get_or ps i no_page).mapped (a % 4096) ≡ true → (j : ℕ) → j < 2 → is_page_bit_set (get_or ps i no_page).mapped (a % 4096 + j) ≡ true
  two_set = set_each 2 (get_or ps i no_page).mapped (a % 4096) (low_fits a 2 fits)

  half_is : are_page_bits_set 2 (get_or ps i no_page).mapped (a % 4096) ≡ true → memory_half_at (memory_of ps) a ≡ half_in (get_or ps i no_page).bytes (a % 4096)
  half_is full =
      let within = page_fits a 2 fits in
      let e0 : byte_at (memory_of ps) a ≡ get_or (get_or ps i no_page).bytes (a % 4096) 0 =
      ap (byte_at (memory_of ps)) (sym (place a)) ∙ byte_at_is ps i (a / 4096) (a % 4096) at (omega arith) (rw add-zero at (two_set full 0 (omega arith))) in
      let e1 : byte_at (memory_of ps) (a + 1) ≡ get_or (get_or ps i no_page).bytes (a % 4096 + 1) 0 =
      ap (byte_at (memory_of ps)) (sym (place_on a 1)) ∙ byte_at_is ps i (a / 4096) (a % 4096 + 1) at (omega arith) (two_set full 1 (omega arith)) in
      omega arith

  pub half_found : (r : Option ℕ) → is_some r ≡ are_page_bits_set 2 (get_or ps i no_page).mapped (a % 4096) → IfSome r (λ h. h ≡ half_in (get_or ps i no_page).bytes (a % 4096)) → r ≡ mapped_half_in_block (memory_of ps) a
  half_found None is each = ap (λ (t : Bool). cond {A = Option ℕ} t (Some (memory_half_at (memory_of ps) a)) None) (is ∙ block_is ps i a 2 at fits)
  half_found (Some h) is each =
      ap (λ (x : ℕ). Some x) (each ∙ sym (half_is (sym is))) ∙ ap (λ (t : Bool). cond {A = Option ℕ} t (Some (memory_half_at (memory_of ps) a)) None) (is ∙ block_is ps i a 2 at fits)

  two_written : (h : ℕ) → are_page_bits_set 2 (get_or ps i no_page).mapped (a % 4096) ≡ true →
      memory_of (changed ps i (set (set (get_or ps i no_page).bytes (a % 4096) (h % 2 ^ 8)) (a % 4096 + 1) (h / 2 ^ 8 % 2 ^ 8))) ≡ with_half (memory_of ps) a h
  two_written h full =
      let within = page_fits a 2 fits in
      let bytes : List ℕ = (get_or ps i no_page).bytes in
      let size : length bytes ≡ 4096 = (page_at ps i at.pages at.within).bytes in
      let t0 = step ps i (a / 4096) bytes (a % 4096) (h % 2 ^ 8) at size (omega arith) (rw add-zero at (two_set full 0 (omega arith))) in
      let t1 = step ps i (a / 4096) (set bytes (a % 4096) (h % 2 ^ 8)) (a % 4096 + 1) (h / 2 ^ 8 % 2 ^ 8) at (length-set bytes (a % 4096) (h % 2 ^ 8) ∙ size) (omega arith) (two_set full 1 (omega arith)) in
      let same : memory_of (changed ps i bytes) ≡ memory_of ps = ap memory_of (set-get_or ps i no_page) in
      rw (t1, t0, same, place_on a 1, place a) refl

  pub half_written : (h : ℕ) (t : Bool) → t ≡ are_page_bits_set 2 (get_or ps i no_page).mapped (a % 4096) →
      memory_of (set ps i (put_in (get_or ps i no_page) t (set (set (get_or ps i no_page).bytes (a % 4096) (h % 2 ^ 8)) (a % 4096 + 1) (h / 2 ^ 8 % 2 ^ 8)))) ≡ with_half_in_block (memory_of ps) a h
  half_written h t is =
      block_written ps i a 2 at fits (set (set (get_or ps i no_page).bytes (a % 4096) (h % 2 ^ 8)) (a % 4096 + 1) (h / 2 ^ 8 % 2 ^ 8)) (with_half (memory_of ps) a h) (two_written h) t is

-- ---- the first word of an area
pub first_none : (ps : List Page) (a : ℕ) → AreOrderedPages ps → All (λ p. page_number_of p ≢ a / 4096) ps → None ≡ area_first_word (memory_of ps) a
first_none ps a pages none = ap (λ (t : Bool). cond {A = Option ℕ} t (Some (word_at (memory_of ps) a)) None) (sym (area_none ps a pages none))

offset_aligned : (a : ℕ) → a % 64 ≡ 0 → a % 4096 % 64 ≡ 0
offset_aligned a h = omega arith

pub first_found : (ps : List Page) (i a : ℕ) (r : Option ℕ) → IsArea ps i a → is_some r ≡ (get_or (get_or ps i no_page).mapped (a % 4096 / 64) 0 == 2 ^ 64 - 1) → IfSome r (λ w. w ≡ word_in (get_or ps i no_page).bytes (a % 4096)) → r ≡ area_first_word (memory_of ps) a
first_found ps i a None area is each = ap (λ (t : Bool). cond {A = Option ℕ} t (Some (word_at (memory_of ps) a)) None) (is ∙ area_is ps i a area)
first_found ps i a (Some w) area is each =
    let aligned = area.aligned in
    let there : w ≡ word_at (memory_of ps) a =
    each
    ∙ sym (word_at_is ps i (a / 4096) (a % 4096) area.at (omega arith) (λ k lt. all_set (get_or ps i no_page).mapped (a % 4096) (offset_aligned a aligned) (eqb-true _ _ (sym is)) k (omega arith)))
    ∙ ap (word_at (memory_of ps)) (place a) in
    ap (λ (x : ℕ). Some x) there ∙ ap (λ (t : Bool). cond {A = Option ℕ} t (Some (word_at (memory_of ps) a)) None) (is ∙ area_is ps i a area)

-- ---- no page: nothing is read, and nothing changes
pub word_none : (ps : List Page) (a : ℕ) → AreOrderedPages ps → All (λ p. page_number_of p ≢ a / 4096) ps → None ≡ mapped_word_in_block (memory_of ps) a
word_none ps a pages none = ap (λ (t : Bool). cond {A = Option ℕ} t (Some (word_at (memory_of ps) a)) None) (sym (block_none ps a 4 pages none (omega arith)))

pub half_none : (ps : List Page) (a : ℕ) → AreOrderedPages ps → All (λ p. page_number_of p ≢ a / 4096) ps → None ≡ mapped_half_in_block (memory_of ps) a
half_none ps a pages none = ap (λ (t : Bool). cond {A = Option ℕ} t (Some (memory_half_at (memory_of ps) a)) None) (sym (block_none ps a 2 pages none (omega arith)))

pub word_unwritten : (ps : List Page) (a w : ℕ) → AreOrderedPages ps → All (λ p. page_number_of p ≢ a / 4096) ps → memory_of ps ≡ with_word_in_block (memory_of ps) a w
word_unwritten ps a w pages none = ap (λ (t : Bool). cond t (with_word (memory_of ps) a w) (memory_of ps)) (sym (block_none ps a 4 pages none (omega arith)))

pub half_unwritten : (ps : List Page) (a h : ℕ) → AreOrderedPages ps → All (λ p. page_number_of p ≢ a / 4096) ps → memory_of ps ≡ with_half_in_block (memory_of ps) a h
half_unwritten ps a h pages none = ap (λ (t : Bool). cond t (with_half (memory_of ps) a h) (memory_of ps)) (sym (block_none ps a 2 pages none (omega arith)))
