-- The laws of chains: what a save, a restore and a store do to the free list and the used list.
use Rattle.std.specs.Prelude.{◌≡◌, ℕ, ◌+◌, ◌<◌, ◌≤◌, ◌⊎◌, ◌^◌, List, ◌∷◌, length, slice_index, Some, ◌≢◌, []}
use Rattle.std.specs.List.{AllByRecursion}
use Rattle.csa_chain.specs.MemoryBytes.{Memory, with_words, with_bytes}
use Rattle.csa_chain.specs.Chain.{link_in, link_address, area_word, chain}
use Rattle.csa_chain.specs.ContextWordLaws.{ContextsStay}
use Rattle.std.specs.FinMap as map

-- no link is on both lists, the used and the free one, as the laws of a save and a restore require
abbrev pub AreDisjoint : List ℕ → List ℕ → Type 0
AreDisjoint used free = AllByRecursion (λ l. AllByRecursion (λ k. k ≢ l) used) free

-- A save: 16 words are written to the first free area, the first of them the old PCXI. The new PCXI
-- names that area, and the new FCX the area that its word 0 named. So the first link of the free
-- list moves to the front of the used list.
abbrev pub SaveMovesLink : Type 0
SaveMovesLink =
    (mem : Memory) (pcxi fcx f : ℕ) (free used : List ℕ) →
    chain mem fcx ≡ Some (f ∷ free) → chain mem pcxi ≡ Some used → AreDisjoint used (f ∷ free) → length used < 4096 → pcxi < 2 ^ 32 →
    (words : List ℕ) (pcxi' fcx' : ℕ) → length words ≡ 16 → slice_index words 0 ≡ pcxi → link_in pcxi' ≡ f → link_in fcx' ≡ link_in (area_word mem f 0) →
    (chain (with_words mem (link_address f) words) pcxi' ≡ Some (f ∷ used)) × (chain (with_words mem (link_address f) words) fcx' ≡ Some free)

-- A restore: the old FCX is written to word 0 of the first used area. The new FCX names that area,
-- and the new PCXI is the word 0 that was read. So the first link of the used list moves to the
-- front of the free list.
abbrev pub RestoreMovesLink : Type 0
RestoreMovesLink =
    (mem : Memory) (pcxi fcx l : ℕ) (used free : List ℕ) →
    chain mem pcxi ≡ Some (l ∷ used) → chain mem fcx ≡ Some free → AreDisjoint free (l ∷ used) → length free < 4096 → fcx < 2 ^ 32 →
    (fcx' : ℕ) → link_in fcx' ≡ l →
    (chain (with_words mem (link_address l) (fcx ∷ [])) fcx' ≡ Some (l ∷ free)) × (chain (with_words mem (link_address l) (fcx ∷ [])) (area_word mem l 0) ≡ Some used)

-- a store to the n bytes from x on misses the areas of these links, so that by law their chain
-- stays as it is
abbrev pub MissesAreas : ℕ → ℕ → List ℕ → Type 0
MissesAreas x n links = AllByRecursion (λ l. (x + n ≤ link_address l) ⊎ (link_address l + 64 ≤ x)) links

-- A store of n bytes that doesn't pass 2^32 and misses all areas of both chains leaves the chains
-- and all contexts as they are.
abbrev pub StoreBesideKeepsChains : Type 0
StoreBesideKeepsChains =
    (mem : Memory) (x w n pcxi fcx : ℕ) (used free : List ℕ) → x + n ≤ 2 ^ 32 →
    chain mem pcxi ≡ Some used → chain mem fcx ≡ Some free → MissesAreas x n used → MissesAreas x n free →
    (chain (with_bytes mem x w n) pcxi ≡ Some used) × (chain (with_bytes mem x w n) fcx ≡ Some free)
    × ContextsStay used mem (with_bytes mem x w n) × ContextsStay free mem (with_bytes mem x w n)

-- the two memories have equal bytes in the areas of these links
abbrev pub HaveEqualAreas : List ℕ → Memory → Memory → Type 0
HaveEqualAreas links old new = AllByRecursion (λ l. (i : ℕ) → i < 64 → map.get new (link_address l + i) ≡ map.get old (link_address l + i)) links

-- A change outside the areas of a chain leaves it as it is.
abbrev pub ChangeOutsideKeepsChain : Type 0
ChangeOutsideKeepsChain =
    (old new : Memory) (word : ℕ) (links : List ℕ) →
    chain old word ≡ Some links → HaveEqualAreas links old new → chain new word ≡ Some links
