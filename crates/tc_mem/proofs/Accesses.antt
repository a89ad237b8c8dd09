-- Reads and writes of a page that was found, and of one that wasn't, as those of the memory.
use Rattle.std.proofs.Common.{◌≡◌, ◌≢◌, ◌+◌, ◌-◌, ◌*◌, ◌/◌, ◌%◌, ◌^◌, ◌<◌, ◌≤◌, ◌==◌, ℕ, Bool, true, false, cond, List, length, get_or, set, All, Option, Some, None, sym, ap, ◌∙◌, arith, add_assoc}
use Rattle.std.proofs.lemmas.Bool.{eqb-true}
use Rattle.std.specs.Prelude.{is_some, IfSome}
use Rattle.std.specs.Bool.{OnFalse}
use Rattle.std.specs.FinMap as finite
use Rattle.std.proofs.lemmas.List.{set-get_or}
use Rattle.csa_chain.specs.MemoryBytes.{Memory, is_mapped, are_mapped, with_byte, with_words, word_at, memory_words_at}
use Rattle.csa_chain.proofs.MemoryLaws.{with_byte_gone}
use Rattle.tcd_base.specs.Bytes.{word_in_bytes as word_in}
use Rattle.tc_mem.specs.Areas.{mapped_area_words, memory_with_area}
use Rattle.tc_mem.specs.Pages.{is_page_bit_set, page_byte_at, memory_of, page_bytes_with_words, AreOrderedPages, page_number_of}
use Rattle.tc_mem.specs.declared.page.Page.{Page}
use Rattle.tc_mem.proofs.Search.{no_page, number_at, number_at_is}
use Rattle.tc_mem.proofs.Stored.{IsAt, ArePages-changed, page_at, get_found, mapped_found, memory_of-changed, memory_of-words}
use Rattle.tc_mem.proofs.AreaLaws.{get_none, area_none, area_mapped, all_set, word_at_is, words_are}

pub is_at : (ps : List Page) (i n : ℕ) → AreOrderedPages ps → i < length ps → number_at ps i ≡ n → IsAt ps i n
is_at ps i n pages lt found = record { pages = pages; within = lt; number = sym (number_at_is ps i lt) ∙ found }

-- ---- bytes
pub read_none : (ps : List Page) (a : ℕ) → AreOrderedPages ps → All (λ p. page_number_of p ≢ a / 4096) ps → None ≡ finite.get (memory_of ps) a
read_none ps a pages none = sym (get_none ps a pages none)

pub read_found : (ps : List Page) (i a : ℕ) → IsAt ps i (a / 4096) → page_byte_at a (get_or ps i no_page) ≡ finite.get (memory_of ps) a
read_found ps i a at = sym (get_found a ps i at.pages at.within at.number)

pub unmapped : (ps : List Page) (a : ℕ) → AreOrderedPages ps → All (λ p. page_number_of p ≢ a / 4096) ps → is_mapped (memory_of ps) a ≡ false
unmapped ps a pages none = ap is_some (get_none ps a pages none)

pub write_none : (ps : List Page) (a b : ℕ) → AreOrderedPages ps → All (λ p. page_number_of p ≢ a / 4096) ps → memory_of ps ≡ with_byte (memory_of ps) a b
write_none ps a b pages none = sym (with_byte_gone (memory_of ps) a b (unmapped ps a pages none))

-- what a write leaves in a page
abbrev pub put_in : Page → Bool → List ℕ → Page
put_in p t bytes = record p { bytes = cond t bytes p.bytes }

pub mapped_is : (ps : List Page) (i a : ℕ) → IsAt ps i (a / 4096) → is_page_bit_set (get_or ps i no_page).mapped (a % 4096) ≡ is_mapped (memory_of ps) a
mapped_is ps i a at = sym (mapped_found a ps i at.pages at.within at.number)

pub write_found : (ps : List Page) (i a b : ℕ) → IsAt ps i (a / 4096) → (t : Bool) → t ≡ is_page_bit_set (get_or ps i no_page).mapped (a % 4096) →
    memory_of (set ps i (put_in (get_or ps i no_page) t (set (get_or ps i no_page).bytes (a % 4096) b))) ≡ with_byte (memory_of ps) a b
write_found ps i a b at true here = memory_of-changed a b ps i at.pages at.within at.number (sym here)
write_found ps i a b at false gone =
    ap memory_of (set-get_or ps i no_page) ∙ sym (with_byte_gone (memory_of ps) a b (sym (mapped_is ps i a at) ∙ sym gone))

pub write_keeps : (ps : List Page) (i n : ℕ) (bytes : List ℕ) → IsAt ps i n → length bytes ≡ length (get_or ps i no_page).bytes → (t : Bool) → AreOrderedPages (set ps i (put_in (get_or ps i no_page) t bytes))
write_keeps ps i n bytes at size true = ArePages-changed ps i bytes at.pages at.within (size ∙ (page_at ps i at.pages at.within).bytes)
write_keeps ps i n bytes at size false = ArePages-changed ps i (get_or ps i no_page).bytes at.pages at.within (page_at ps i at.pages at.within).bytes

pub write_kept : (old new : Memory) (a b : ℕ) (t : Bool) → t ≡ is_mapped old a → new ≡ with_byte old a b → OnFalse t (new ≡ old)
write_kept old new a b true is written = tt
write_kept old new a b false is written = written ∙ with_byte_gone old a b (sym is)

-- ---- areas
-- an area is inside one page
pub record IsArea (ps : List Page) (i a : ℕ) : Type 0 where
  pub at : IsAt ps i (a / 4096)
  pub aligned : a % 64 ≡ 0
  pub fits : get_or (get_or ps i no_page).mapped (a % 4096 / 64) 0 < 2 ^ 64

place : (a : ℕ) → a / 4096 * 4096 + a % 4096 ≡ a
place a = omega arith

offset_aligned : (a : ℕ) → a % 64 ≡ 0 → a % 4096 % 64 ≡ 0
offset_aligned a h = omega arith

offset_fits : (a : ℕ) → a % 64 ≡ 0 → a % 4096 + 64 ≤ 4096
offset_fits a h = omega arith

offset_below : (a : ℕ) → a % 4096 < 4096
offset_below a = omega arith

pub area_is : (ps : List Page) (i a : ℕ) → IsArea ps i a → (get_or (get_or ps i no_page).mapped (a % 4096 / 64) 0 == 2 ^ 64 - 1) ≡ are_mapped (memory_of ps) a 64
area_is ps i a area =
    sym (area_mapped ps i (a / 4096) (a % 4096) area.at (offset_aligned a area.aligned) (offset_below a) area.fits)
    ∙ ap (λ (x : ℕ). are_mapped (memory_of ps) x 64) (place a)

-- the bits of an area are one word, which is all ones if all bytes are mapped
full : (ps : List Page) (i a : ℕ) → IsArea ps i a → (get_or (get_or ps i no_page).mapped (a % 4096 / 64) 0 == 2 ^ 64 - 1) ≡ true → (j : ℕ) → j < 64 → is_page_bit_set (get_or ps i no_page).mapped (a % 4096 + j) ≡ true
full ps i a area all = all_set (get_or ps i no_page).mapped (a % 4096) (offset_aligned a area.aligned) (eqb-true _ _ all)

pub read_area_none : (ps : List Page) (a : ℕ) → AreOrderedPages ps → All (λ p. page_number_of p ≢ a / 4096) ps → None ≡ mapped_area_words (memory_of ps) a
read_area_none ps a pages none = ap (λ (t : Bool). cond t (Some (memory_words_at (memory_of ps) a 16)) None) (sym (area_none ps a pages none))

words_found : (ps : List Page) (i a : ℕ) (ws : List ℕ) → IsArea ps i a → (get_or (get_or ps i no_page).mapped (a % 4096 / 64) 0 == 2 ^ 64 - 1) ≡ true → length ws ≡ 16 → ((k : ℕ) → k < 16 → get_or ws k 0 ≡ word_in (get_or ps i no_page).bytes (a % 4096 + 4 * k)) → ws ≡ memory_words_at (memory_of ps) a 16
words_found ps i a ws area all size each =
    words_are (memory_of ps) a ws 16 size (λ k h.
    let f = offset_fits a area.aligned in
    each k h
    ∙ sym (word_at_is ps i (a / 4096) (a % 4096 + 4 * k) area.at (omega arith) (λ j l. ap (is_page_bit_set (get_or ps i no_page).mapped) (add_assoc (a % 4096) (4 * k) j) ∙ full ps i a area all (4 * k + j) (omega arith)))
    ∙ ap (word_at (memory_of ps)) (sym (add_assoc (a / 4096 * 4096) (a % 4096) (4 * k)) ∙ ap (λ (x : ℕ). x + 4 * k) (place a)))

pub read_area_found : (ps : List Page) (i a : ℕ) (r : Option (List ℕ)) → IsArea ps i a → is_some r ≡ (get_or (get_or ps i no_page).mapped (a % 4096 / 64) 0 == 2 ^ 64 - 1) → IfSome r (λ ws. length ws ≡ 16) → IfSome r (λ ws. (k : ℕ) → k < 16 → get_or ws k 0 ≡ word_in (get_or ps i no_page).bytes (a % 4096 + 4 * k)) → r ≡ mapped_area_words (memory_of ps) a
read_area_found ps i a None area is size each = ap (λ (t : Bool). cond t (Some (memory_words_at (memory_of ps) a 16)) None) (is ∙ area_is ps i a area)
read_area_found ps i a (Some ws) area is size each =
    ap (λ (x : List ℕ). Some x) (words_found ps i a ws area (sym is) size each)
    ∙ ap (λ (t : Bool). cond t (Some (memory_words_at (memory_of ps) a 16)) None) (is ∙ area_is ps i a area)

pub write_area_none : (ps : List Page) (a : ℕ) (ws : List ℕ) → AreOrderedPages ps → All (λ p. page_number_of p ≢ a / 4096) ps → memory_of ps ≡ memory_with_area (memory_of ps) a ws
write_area_none ps a ws pages none = ap (λ (t : Bool). cond t (with_words (memory_of ps) a ws) (memory_of ps)) (sym (area_none ps a pages none))

pub write_area_found : (ps : List Page) (i a : ℕ) (ws : List ℕ) → IsArea ps i a → length ws ≡ 16 → (t : Bool) → t ≡ (get_or (get_or ps i no_page).mapped (a % 4096 / 64) 0 == 2 ^ 64 - 1) →
    memory_of (set ps i (put_in (get_or ps i no_page) t (page_bytes_with_words (get_or ps i no_page).bytes (a % 4096) ws))) ≡ memory_with_area (memory_of ps) a ws
write_area_found ps i a ws area size true is =
    memory_of-words ps i (a / 4096) (a % 4096) ws area.at (let f = offset_fits a area.aligned in omega arith) (λ k h. full ps i a area (sym is) k (omega arith))
    ∙ ap (λ (x : ℕ). with_words (memory_of ps) x ws) (place a)
    ∙ ap (λ (t : Bool). cond t (with_words (memory_of ps) a ws) (memory_of ps)) (is ∙ area_is ps i a area)
write_area_found ps i a ws area size false is =
    ap memory_of (set-get_or ps i no_page)
    ∙ ap (λ (t : Bool). cond t (with_words (memory_of ps) a ws) (memory_of ps)) (is ∙ area_is ps i a area)
