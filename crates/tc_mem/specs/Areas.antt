-- The 64 bytes of a save area in a memory.
use Rattle.std.specs.Prelude.{ℕ, List, Option, Some, None, if◌then◌else◌}
use Rattle.csa_chain.specs.MemoryBytes.{Memory, are_mapped, memory_words_at, with_words, word_at}

-- the 16 words of the save area at an address; None if one of the 64 bytes isn't mapped
abbrev pub mapped_area_words : Memory → ℕ → Option (List ℕ)
mapped_area_words m x = if are_mapped m x 64 then Some (memory_words_at m x 16) else None

-- the memory with these 16 words in the save area at an address; unchanged if one of the 64 bytes
-- isn't mapped
abbrev pub memory_with_area : Memory → ℕ → List ℕ → Memory
memory_with_area m x words = if are_mapped m x 64 then with_words m x words else m

-- the first word of the save area at an address; None if one of the 64 bytes isn't mapped
abbrev pub area_first_word : Memory → ℕ → Option ℕ
area_first_word m x = if are_mapped m x 64 then Some (word_at m x) else None
