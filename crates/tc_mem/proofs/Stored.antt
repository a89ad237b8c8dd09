-- What bytes and words that are written into a page change in the memory.
use Rattle.std.proofs.Common.{◌≡◌, ◌≢◌, ◌+◌, ◌*◌, ◌/◌, ◌%◌, ◌^◌, ◌<◌, ◌≤◌, ℕ, Bool, true, false, cond, List, [], ◌∷◌, length, get_or, set, drop, Some, None, inl, inr, refl, sym, ap, ◌∙◌, arith, length-set, add-zero}
use Rattle.std.specs.Prelude.{is_some}
use Rattle.std.proofs.lemmas.Bool.{cases_eq}
use Rattle.std.proofs.lemmas.List.{get_or-set_same, get_or-set_other, set-set, set-get_or, drop_more}
use Rattle.std.proofs.Math.ListN.{drop_of_length-le}
use Rattle.std.proofs.lemmas.List.Elements.{All-get_or}
use Rattle.std.specs.FinMap as finite
use Rattle.std.specs.FinMap.{same_map, nat_cmp-IsAntisymmetric}
use Rattle.std.specs.Cmp.{nat_cmp_total}
use Rattle.csa_chain.specs.MemoryBytes.{Memory, is_mapped, with_byte, with_word, with_words}
use Rattle.csa_chain.proofs.MemoryLaws.{get-with_byte_other, get-with_byte_same}
use Rattle.tc_mem.specs.Pages.{is_page_bit_set, page_byte_at, memory_of, page_bytes_with_words, IsPage, AreOrderedPages, page_number_of}
use Rattle.tc_mem.specs.declared.page.Page.{Page}
use Rattle.tc_mem.proofs.Search.{no_page}
use Rattle.tc_mem.proofs.Mapped.{byte_in, byte_of_same, byte_of_other, get-memory_of, byte_in_found, byte_in_set, ArePages-set}

-- the number of a page's bytes doesn't change
pub length-bytes_with : (bytes : List ℕ) (o : ℕ) (ws : List ℕ) → length (page_bytes_with_words bytes o ws) ≡ length bytes
unfolding page_bytes_with_words
length-bytes_with bytes o [] = refl
length-bytes_with bytes o (w ∷ ws) = length-set _ (o + 3) _ ∙ length-set _ (o + 2) _ ∙ length-set _ (o + 1) _ ∙ length-set _ o _ ∙ length-bytes_with bytes (o + 4) ws

-- no words are left to write
pub bytes_with_all : (bytes : List ℕ) (o : ℕ) (ws : List ℕ) (i : ℕ) → length ws ≤ i → page_bytes_with_words bytes o (drop i ws) ≡ bytes
unfolding page_bytes_with_words
bytes_with_all bytes o ws i past = let none : drop i ws ≡ [] = drop_of_length-le ws past in rw none refl

-- one more word, before those that were written
pub bytes_with_more : (bytes now : List ℕ) (o : ℕ) (ws : List ℕ) (i j : ℕ) → i ≡ j + 1 → j < length ws → now ≡ page_bytes_with_words bytes (o + 4 * i) (drop i ws) → page_bytes_with_words now (o + 4 * j) (get_or ws j 0 ∷ []) ≡ page_bytes_with_words bytes (o + 4 * j) (drop j ws)
unfolding page_bytes_with_words
bytes_with_more bytes now o ws i j next lt is =
    let first = drop_more ws j 0 lt in
    let place : o + 4 * j + 4 ≡ o + 4 * i = omega arith in
    rw (first, place, ← next, ← is) refl

-- a page among pages is whole
pub page_at : (ps : List Page) (i : ℕ) → AreOrderedPages ps → i < length ps → IsPage (get_or ps i no_page)
page_at ps i pages lt = All-get_or IsPage ps i no_page lt pages.whole

-- a page with other bytes
abbrev pub with_bytes : Page → List ℕ → Page
with_bytes p bytes = record p { bytes = bytes }

-- the pages with other bytes in one of them
abbrev pub changed : List Page → ℕ → List ℕ → List Page
changed ps i bytes = set ps i (with_bytes (get_or ps i no_page) bytes)

pub ArePages-changed : (ps : List Page) (i : ℕ) (bytes : List ℕ) → AreOrderedPages ps → i < length ps → length bytes ≡ 4096 → AreOrderedPages (changed ps i bytes)
ArePages-changed ps i bytes pages lt size =
    let page = page_at ps i pages lt in
    ArePages-set ps i (with_bytes (get_or ps i no_page) bytes) pages (record { bytes = size; bits = page.bits }) refl

-- the byte of a page at an address, if one byte is replaced
written_same : (a b : ℕ) (p : Page) → IsPage p → page_number_of p ≡ a / 4096 → is_page_bit_set p.mapped (a % 4096) ≡ true → page_byte_at a (with_bytes p (set p.bytes (a % 4096) b)) ≡ Some b
written_same a b p page is here =
    let size = page.bytes in
    byte_of_same a (with_bytes p (set p.bytes (a % 4096) b)) is
    ∙ ap (λ (t : Bool). cond t (Some (get_or (set p.bytes (a % 4096) b) (a % 4096) 0)) None) here
    ∙ ap (λ (x : ℕ). Some x) (get_or-set_same p.bytes (a % 4096) b 0 (omega arith))

written_other : (a b q : ℕ) (p : Page) → page_number_of p ≡ a / 4096 → q ≢ a → page_byte_at q (with_bytes p (set p.bytes (a % 4096) b)) ≡ page_byte_at q p
written_other a b q p is other =
    elim (cases_eq (page_number_of p) (q / 4096)) [
      | inl same ↦
          let apart : q % 4096 ≢ a % 4096 = λ e. other (omega arith) in
          byte_of_same q (with_bytes p (set p.bytes (a % 4096) b)) same
          ∙ ap (λ (x : ℕ). cond (is_page_bit_set p.mapped (q % 4096)) (Some x) None) (get_or-set_other p.bytes (a % 4096) (q % 4096) b 0 apart)
          ∙ sym (byte_of_same q p same)
      | inr ne ↦ byte_of_other q (with_bytes p (set p.bytes (a % 4096) b)) ne ∙ sym (byte_of_other q p ne)
    ]

-- the byte at an address of a page that was found
pub get_found : (a : ℕ) (ps : List Page) (i : ℕ) → AreOrderedPages ps → i < length ps → page_number_of (get_or ps i no_page) ≡ a / 4096 → finite.get (memory_of ps) a ≡ page_byte_at a (get_or ps i no_page)
get_found a ps i pages lt is = get-memory_of ps a pages.whole ∙ byte_in_found a ps i pages lt is

pub mapped_found : (a : ℕ) (ps : List Page) (i : ℕ) → AreOrderedPages ps → i < length ps → page_number_of (get_or ps i no_page) ≡ a / 4096 → is_mapped (memory_of ps) a ≡ is_page_bit_set (get_or ps i no_page).mapped (a % 4096)
mapped_found a ps i pages lt is =
    ap is_some (get_found a ps i pages lt is ∙ byte_of_same a (get_or ps i no_page) is) ∙ some_of (is_page_bit_set (get_or ps i no_page).mapped (a % 4096)) (get_or (get_or ps i no_page).bytes (a % 4096) 0)
  where
    some_of : (b : Bool) (x : ℕ) → is_some (cond b (Some x) None) ≡ b
    some_of true x = refl
    some_of false x = refl

-- a byte that is written into a page is the byte that is written into the memory
pub memory_of-changed : (a b : ℕ) (ps : List Page) (i : ℕ) → AreOrderedPages ps → i < length ps → page_number_of (get_or ps i no_page) ≡ a / 4096 → is_page_bit_set (get_or ps i no_page).mapped (a % 4096) ≡ true → memory_of (changed ps i (set (get_or ps i no_page).bytes (a % 4096) b)) ≡ with_byte (memory_of ps) a b
memory_of-changed a b ps i pages lt is here =
    let p : Page = get_or ps i no_page in
    let page : IsPage p = page_at ps i pages lt in
    let bytes : List ℕ = set p.bytes (a % 4096) b in
    let size : length bytes ≡ 4096 = length-set p.bytes (a % 4096) b ∙ page.bytes in
    let after : AreOrderedPages (changed ps i bytes) = ArePages-changed ps i bytes pages lt size in
    same_map nat_cmp_total nat_cmp-IsAntisymmetric (memory_of (changed ps i bytes)) (with_byte (memory_of ps) a b) (λ q.
    get-memory_of (changed ps i bytes) q after.whole
    ∙ elim (cases_eq q a) [
      | inl same ↦
          let there : get_or (changed ps i bytes) i no_page ≡ with_bytes p bytes = get_or-set_same ps i (with_bytes p bytes) no_page lt in
          ap (λ (k : ℕ). byte_in k (changed ps i bytes)) same
          ∙ byte_in_found a (changed ps i bytes) i after (rw length-set lt) (ap page_number_of there ∙ is)
          ∙ ap (page_byte_at a) there
          ∙ written_same a b p page is here
          ∙ sym (get-with_byte_same (memory_of ps) a b (mapped_found a ps i pages lt is ∙ here))
          ∙ ap (λ (k : ℕ). finite.get (with_byte (memory_of ps) a b) k) (sym same)
      | inr other ↦
          byte_in_set q ps i (with_bytes p bytes) lt (written_other a b q p is other)
          ∙ sym (get-memory_of ps q pages.whole)
          ∙ sym (get-with_byte_other (memory_of ps) a b q other)
    ])

-- ---- one write after another into one page
changed_there : (ps : List Page) (i : ℕ) (bytes : List ℕ) → i < length ps → get_or (changed ps i bytes) i no_page ≡ with_bytes (get_or ps i no_page) bytes
changed_there ps i bytes lt = get_or-set_same ps i (with_bytes (get_or ps i no_page) bytes) no_page lt

changed_again : (ps : List Page) (i : ℕ) (bytes others : List ℕ) → i < length ps → changed (changed ps i bytes) i others ≡ changed ps i others
changed_again ps i bytes others lt =
    ap (λ (p : Page). set (changed ps i bytes) i (with_bytes p others)) (changed_there ps i bytes lt)
    ∙ set-set ps i (with_bytes (get_or ps i no_page) bytes) (with_bytes (get_or ps i no_page) others)

-- a list of pages, one of which has this place and number
pub record IsAt (ps : List Page) (i n : ℕ) : Type 0 where
  pub pages : AreOrderedPages ps
  pub within : i < length ps
  pub number : page_number_of (get_or ps i no_page) ≡ n

-- one more byte
pub step : (ps : List Page) (i n : ℕ) (bytes : List ℕ) (j b : ℕ) → IsAt ps i n → length bytes ≡ 4096 → j < 4096 → is_page_bit_set (get_or ps i no_page).mapped j ≡ true → memory_of (changed ps i (set bytes j b)) ≡ with_byte (memory_of (changed ps i bytes)) (n * 4096 + j) b
step ps i n bytes j b at size lt here =
    let a : ℕ = n * 4096 + j in
    let low : a % 4096 ≡ j = omega arith in
    let high : n ≡ a / 4096 = omega arith in
    let there = changed_there ps i bytes at.within in
    let after = memory_of-changed a b (changed ps i bytes) i (ArePages-changed ps i bytes at.pages at.within size) (rw length-set at.within) (ap page_number_of there ∙ at.number ∙ high) (ap (λ (p : Page). is_page_bit_set p.mapped (a % 4096)) there ∙ ap (is_page_bit_set (get_or ps i no_page).mapped) low ∙ here) in
    ap memory_of (sym (changed_again ps i bytes (set bytes j b) at.within))
    ∙ ap (λ (k : ℕ). memory_of (changed (changed ps i bytes) i (set bytes k b))) (sym low)
    ∙ ap (λ (p : Page). memory_of (changed (changed ps i bytes) i (set p.bytes (a % 4096) b))) (sym there)
    ∙ after

-- four more bytes: a word
word_step : (ps : List Page) (i n : ℕ) (bytes : List ℕ) (o w : ℕ) → IsAt ps i n → length bytes ≡ 4096 → o + 4 ≤ 4096 → ((k : ℕ) → k < 4 → is_page_bit_set (get_or ps i no_page).mapped (o + k) ≡ true) →
    memory_of (changed ps i (set (set (set (set bytes o (w % 2 ^ 8)) (o + 1) (w / 2 ^ 8 % 2 ^ 8)) (o + 2) (w / 2 ^ 16 % 2 ^ 8)) (o + 3) (w / 2 ^ 24 % 2 ^ 8))) ≡ with_word (memory_of (changed ps i bytes)) (n * 4096 + o) w
unfolding with_word
word_step ps i n bytes o w at size lt here =
    let b0 : List ℕ = set bytes o (w % 2 ^ 8) in
    let b1 : List ℕ = set b0 (o + 1) (w / 2 ^ 8 % 2 ^ 8) in
    let b2 : List ℕ = set b1 (o + 2) (w / 2 ^ 16 % 2 ^ 8) in
    let s0 : length b0 ≡ 4096 = length-set bytes o (w % 2 ^ 8) ∙ size in
    let s1 : length b1 ≡ 4096 = length-set b0 (o + 1) (w / 2 ^ 8 % 2 ^ 8) ∙ s0 in
    let s2 : length b2 ≡ 4096 = length-set b1 (o + 2) (w / 2 ^ 16 % 2 ^ 8) ∙ s1 in
    let a1 : n * 4096 + (o + 1) ≡ n * 4096 + o + 1 = omega arith in
    let a2 : n * 4096 + (o + 2) ≡ n * 4096 + o + 2 = omega arith in
    let a3 : n * 4096 + (o + 3) ≡ n * 4096 + o + 3 = omega arith in
    let t0 = step ps i n bytes o (w % 2 ^ 8) at size (omega arith) (rw add-zero at (here 0 (omega arith))) in
    let t1 = step ps i n b0 (o + 1) (w / 2 ^ 8 % 2 ^ 8) at s0 (omega arith) (here 1 (omega arith)) in
    let t2 = step ps i n b1 (o + 2) (w / 2 ^ 16 % 2 ^ 8) at s1 (omega arith) (here 2 (omega arith)) in
    let t3 = step ps i n b2 (o + 3) (w / 2 ^ 24 % 2 ^ 8) at s2 (omega arith) (here 3 (omega arith)) in
    rw (t3, t2, t1, t0, a1, a2, a3) refl

-- words, the last ones first
pub memory_of-words : (ps : List Page) (i n o : ℕ) (ws : List ℕ) → IsAt ps i n → o + 4 * length ws ≤ 4096 → ((k : ℕ) → k < 4 * length ws → is_page_bit_set (get_or ps i no_page).mapped (o + k) ≡ true) → memory_of (changed ps i (page_bytes_with_words (get_or ps i no_page).bytes o ws)) ≡ with_words (memory_of ps) (n * 4096 + o) ws
unfolding with_words page_bytes_with_words
memory_of-words ps i n o [] at fit here = ap memory_of (set-get_or ps i no_page)
memory_of-words ps i n o (w ∷ ws) at fit here =
    let next : n * 4096 + (o + 4) ≡ n * 4096 + o + 4 = omega arith in
    let rest = memory_of-words ps i n (o + 4) ws at (omega arith) (λ k h. let e : o + 4 + k ≡ o + (4 + k) = omega arith in rw e (here (4 + k) (omega arith))) in
    word_step ps i n (page_bytes_with_words (get_or ps i no_page).bytes (o + 4) ws) o w at (length-bytes_with _ (o + 4) ws ∙ (page_at ps i at.pages at.within).bytes) (omega arith) (λ k h. here k (omega arith))
    ∙ ap (λ (m : Memory). with_word m (n * 4096 + o) w) (rest ∙ ap (λ (x : ℕ). with_words (memory_of ps) x ws) next)
