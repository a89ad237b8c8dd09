-- The laws of memory: what is read after a write, and the bounds of bytes and words.
use Rattle.std.specs.Prelude.{◌≡◌, ℕ, ◌+◌, ◌*◌, ◌%◌, ◌^◌, ◌<◌, ◌≤◌, ◌⊎◌, true, List, length, slice_index}
use Rattle.std.specs.FinMap as map
use Rattle.csa_chain.specs.MemoryBytes.{Memory, is_mapped, word_at, with_byte, with_words, HasOnlyBytes}

-- law of memory maps: words that are written to mapped bytes are read back, no other byte changes,
-- and none is mapped or unmapped
abbrev pub WordsRoundTrip : Type 0
WordsRoundTrip =
    (m : Memory) (x : ℕ) (ws : List ℕ) →
    ((i : ℕ) → i < length ws → ((k : ℕ) → k < 4 * length ws → is_mapped m (x + k) ≡ true) → word_at (with_words m x ws) (x + 4 * i) ≡ slice_index ws i % 2 ^ 32)
    × ((y : ℕ) → (y < x) ⊎ (x + 4 * length ws ≤ y) → map.get (with_words m x ws) y ≡ map.get m y)
    × ((y : ℕ) → is_mapped (with_words m x ws) y ≡ is_mapped m y)

-- A memory of bytes below 256 has words below 2^32. It still has such bytes after a byte below 256
-- or words are written.
abbrev pub BytesStayInBounds : Type 0
BytesStayInBounds =
    (m : Memory) → HasOnlyBytes m →
    ((x : ℕ) → word_at m x < 2 ^ 32)
    × ((x b : ℕ) → b < 2 ^ 8 → HasOnlyBytes (with_byte m x b))
    × ((x : ℕ) (ws : List ℕ) → HasOnlyBytes (with_words m x ws))
