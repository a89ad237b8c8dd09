-- Bytes that are written one after another.
use Rattle.std.specs.Prelude.{◌≡◌, ◌<◌, ◌≤◌, ◌⊎◌, ◌+◌, ℕ, true, List, length, slice_index, Some}
use Rattle.std.specs.FinMap as finite
use Rattle.csa_chain.specs.MemoryBytes.{Memory, is_mapped}

-- A memory after a write of these bytes from an address on: those that are mapped are written, all
-- else is as it was, and no byte is mapped or unmapped.
pub record IsMemoryWritten (m : Memory) (x : ℕ) (bytes : List ℕ) (new : Memory) : Type 0 where
  pub mapped : (q : ℕ) → is_mapped new q ≡ is_mapped m q
  pub here : (k : ℕ) → k < length bytes → is_mapped m (x + k) ≡ true → finite.get new (x + k) ≡ Some (slice_index bytes k)
  pub elsewhere : (q : ℕ) → (q < x) ⊎ (x + length bytes ≤ q) → finite.get new q ≡ finite.get m q
