-- Bytes stay below 256.
use Rattle.std.proofs.Common.{◌≡◌, ◌+◌, ◌/◌, ◌%◌, ◌<◌, ◌==◌, ℕ, zero, suc, Bool, true, false, cond, List, [], ◌∷◌, get_or, set, replicate, lit<, Option, Some, None, sym, ◌∙◌, arith}
use Rattle.std.proofs.lemmas.List.Elements.{All-head, All-tail, All-set}
use Rattle.csa_chain.specs.MemoryBytes.{HasOnlyBytes}
use Rattle.tc_mem.specs.Pages.{is_page_bit_set, page_byte_at, memory_of, page_bytes_with_words, AreOrderedPages, ArePageBytesSmall, AreMemoryPages}
use Rattle.tc_mem.specs.declared.page.Page.{Page}
use Rattle.tc_mem.proofs.Search.{no_page}
use Rattle.tc_mem.proofs.Mapped.{or_else, byte_in, get-memory_of}
use Rattle.tc_mem.proofs.Accesses.{put_in}

abbrev pub IsSmall : Page → Type 0
IsSmall p = (k : ℕ) → get_or p.bytes k 0 < 256

-- a byte that is replaced
pub set_small : (bytes : List ℕ) (o b : ℕ) → ((k : ℕ) → get_or bytes k 0 < 256) → b < 256 → (k : ℕ) → get_or (set bytes o b) k 0 < 256
set_small [] o b small lt k = small k
set_small (x ∷ xs) zero b small lt zero = lt
set_small (x ∷ xs) zero b small lt (suc k) = small (suc k)
set_small (x ∷ xs) (suc o) b small lt zero = small zero
set_small (x ∷ xs) (suc o) b small lt (suc k) = set_small xs o b (λ j. small (suc j)) lt k

-- words that are replaced
pub bytes_with_small : (bytes : List ℕ) (o : ℕ) (ws : List ℕ) → ((k : ℕ) → get_or bytes k 0 < 256) → (k : ℕ) → get_or (page_bytes_with_words bytes o ws) k 0 < 256
unfolding page_bytes_with_words
bytes_with_small bytes o [] small k = small k
bytes_with_small bytes o (w ∷ ws) small k =
    set_small _ (o + 3) _ (set_small _ (o + 2) _ (set_small _ (o + 1) _ (set_small _ o _ (bytes_with_small bytes (o + 4) ws small) (omega arith)) (omega arith)) (omega arith)) (omega arith) k

-- pages, one of them with other bytes
pub AreSmall-put : (ps : List Page) (i : ℕ) (bytes : List ℕ) (t : Bool) → ((k : ℕ) → get_or bytes k 0 < 256) → IsSmall (get_or ps i no_page) → ArePageBytesSmall ps → ArePageBytesSmall (set ps i (put_in (get_or ps i no_page) t bytes))
AreSmall-put ps i bytes true new old small = All-set IsSmall ps i (put_in (get_or ps i no_page) true bytes) new small
AreSmall-put ps i bytes false new old small = All-set IsSmall ps i (put_in (get_or ps i no_page) false bytes) old small

-- the memory has bytes
pub byte_of_small : (q : ℕ) (p : Page) (b : ℕ) → IsSmall p → (s t : Bool) → cond s (cond t (Some (get_or p.bytes (q % 4096) 0)) None) None ≡ Some b → b < 256
byte_of_small q p b small true true e = let same : get_or p.bytes (q % 4096) 0 ≡ b = cc in let lt = small (q % 4096) in omega arith
byte_of_small q p b small true false e = cc
byte_of_small q p b small false t e = cc

from_either : (o r : Option ℕ) (b : ℕ) → (o ≡ Some b → b < 256) → (r ≡ Some b → b < 256) → or_else o r ≡ Some b → b < 256
from_either None r b one other e = other e
from_either (Some x) r b one other e = one e

pub byte_in_small : (q : ℕ) (ps : List Page) (b : ℕ) → ArePageBytesSmall ps → byte_in q ps ≡ Some b → b < 256
byte_in_small q [] b small e = cc
byte_in_small q (p ∷ ps) b small e =
    from_either (page_byte_at q p) (byte_in q ps) b
    (byte_of_small q p b (All-head IsSmall p ps small) (q / 4096 == p.number) (is_page_bit_set p.mapped (q % 4096)))
    (byte_in_small q ps b (All-tail IsSmall p ps small)) e

pub HasBytes-memory_of : (ps : List Page) → AreOrderedPages ps → ArePageBytesSmall ps → HasOnlyBytes (memory_of ps)
HasBytes-memory_of ps pages small q b e = byte_in_small q ps b small (sym (get-memory_of ps q pages.whole) ∙ e)

pub HasBytes-mem : (ps : List Page) → AreMemoryPages ps → HasOnlyBytes (memory_of ps)
HasBytes-mem ps mem = HasBytes-memory_of ps mem.pages mem.small

-- a new page has zeros
pub zeros_small : (n : ℕ) (k : ℕ) → get_or (replicate n 0) k 0 < 256
zeros_small zero k = lit< tt
zeros_small (suc n) zero = lit< tt
zeros_small (suc n) (suc k) = zeros_small n k
