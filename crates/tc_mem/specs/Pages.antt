-- Pages of 4,096 bytes, and the memory of a list of pages.
use Rattle.std.specs.Prelude.{◌≡◌, ◌≢◌, ◌<◌, ◌+◌, ◌-◌, ◌*◌, ◌/◌, ◌%◌, ◌^◌, ℕ, Bool, ◌==◌, if◌then◌else◌, List, ◌∷◌, ◌++◌, map, length, take, drop, slice_index, slice_set, Option, Some, None, All, []}
use Rattle.std.specs.List.Sorted.{IsStrictlyIncreasing}
use Rattle.std.specs.Int.{bit_at}
use Rattle.std.specs.FinMap as finite
use Rattle.csa_chain.specs.MemoryBytes.{Memory}
use Rattle.tc_mem.specs.declared.page.Page.{Page}

-- the byte at an offset of a page is mapped: a bit for each, 64 to a word
abbrev pub is_page_bit_set : List ℕ → ℕ → Bool
is_page_bit_set mapped offset = bit_at (slice_index mapped (offset / 64)) (offset % 64) == 1

-- the bits of the n bytes from an offset on are in one word, and all set
abbrev pub are_page_bits_set : ℕ → List ℕ → ℕ → Bool
are_page_bits_set n mapped offset = slice_index mapped (offset / 64) / 2 ^ (offset % 64) % 2 ^ n == 2 ^ n - 1

-- the 64 bytes of a page from an offset on, a multiple of 64, are all mapped: their bits, which are
-- one word, are all set
abbrev pub is_block_mapped : List ℕ → ℕ → Bool
is_block_mapped mapped offset = slice_index mapped (offset / 64) == 2 ^ 64 - 1

-- the bits of the 64 bytes of a page around an offset fit a word of 64 bits
abbrev pub BlockBitsFitWord : List ℕ → ℕ → Type 0
BlockBitsFitWord mapped offset = slice_index mapped (offset / 64) < 2 ^ 64

-- the byte at an address, if it is in the page and mapped
abbrev pub page_byte_at : ℕ → Page → Option ℕ
page_byte_at q p = if q / 4096 == p.number then (if is_page_bit_set p.mapped (q % 4096) then Some (slice_index p.bytes (q % 4096)) else None) else None

-- the mapped ones of the bytes from an address on, each with its address
unfoldable pub page_entries_from : List ℕ → ℕ → List ℕ → List (ℕ × ℕ)
page_entries_from mapped at [] = []
page_entries_from mapped at (b ∷ bs) = if is_page_bit_set mapped (at % 4096) then (at, b) ∷ page_entries_from mapped (at + 1) bs else page_entries_from mapped (at + 1) bs

-- the mapped bytes of all pages, each with its address
unfoldable pub entries_of_pages : List Page → List (ℕ × ℕ)
entries_of_pages [] = []
entries_of_pages (p ∷ ps) = page_entries_from p.mapped (p.number * 4096) p.bytes ++ entries_of_pages ps

-- the memory that a list of pages holds: their mapped bytes at their addresses
unfoldable pub memory_of : List Page → Memory
memory_of ps = finite.from_entries (entries_of_pages ps)

-- a page has 4,096 bytes and as many bits
pub record IsPage (p : Page) : Type 0 where
  pub bytes : length p.bytes ≡ 4096
  pub bits : length p.mapped ≡ 64

-- the number of a page: its first address, divided by 4,096
abbrev pub page_number_of : Page → ℕ
page_number_of p = p.number

-- the pages are in ascending order of their numbers
abbrev pub AscendByNumber : List Page → Type 0
AscendByNumber ps = IsStrictlyIncreasing (map page_number_of ps)

-- the page with index i has this number
abbrev pub PageHasNumber : List Page → ℕ → ℕ → Type 0
PageHasNumber ps i number = slice_index (map page_number_of ps) i ≡ number

-- none of the pages has this number
abbrev pub NoPageHasNumber : List Page → ℕ → Type 0
NoPageHasNumber ps number = All (λ p. page_number_of p ≢ number) ps

-- each page is whole, and the numbers of the pages ascend
pub record AreOrderedPages (ps : List Page) : Type 0 where
  pub whole : All IsPage ps
  pub rising : IsStrictlyIncreasing (map page_number_of ps)

-- each byte of the memory's pages is below 256
abbrev pub ArePageBytesSmall : List Page → Type 0
ArePageBytesSmall ps = All (λ p. (k : ℕ) → slice_index p.bytes k < 256) ps

-- the pages of a memory: each is whole, their numbers ascend, and their bytes are below 256
pub record AreMemoryPages (ps : List Page) : Type 0 where
  pub pages : AreOrderedPages ps
  pub small : ArePageBytesSmall ps

-- the bytes of a page, with these bytes written from an offset on
abbrev pub page_bytes_with : List ℕ → ℕ → List ℕ → List ℕ
page_bytes_with bytes offset new = take offset bytes ++ (new ++ drop (offset + length new) bytes)

-- the bytes of a page, with the two bytes of a halfword written at an offset, the lower byte first
abbrev pub page_bytes_with_half : List ℕ → ℕ → ℕ → List ℕ
page_bytes_with_half bytes offset half = slice_set (slice_set bytes offset (half % 2 ^ 8)) (offset + 1) (half / 2 ^ 8 % 2 ^ 8)

-- the bytes of a page, with these 32-bit words written from an offset on, the lowest byte of each
-- first
unfoldable pub page_bytes_with_words : List ℕ → ℕ → List ℕ → List ℕ
page_bytes_with_words bytes offset [] = bytes
page_bytes_with_words bytes offset (w ∷ ws) =
    slice_set (slice_set (slice_set (slice_set (page_bytes_with_words bytes (offset + 4) ws) offset (w % 2 ^ 8)) (offset + 1) (w / 2 ^ 8 % 2 ^ 8)) (offset + 2) (w / 2 ^ 16 % 2 ^ 8)) (offset + 3) (w / 2 ^ 24 % 2 ^ 8)
