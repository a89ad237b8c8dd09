-- Accesses of a word or a halfword inside one block of 64 bytes, whose bits are one word of a page.
use Rattle.std.specs.Prelude.{ℕ, ◌+◌, ◌*◌, ◌%◌, ◌^◌, Bool, ◌&&◌, nat_le, if◌then◌else◌, Option, Some, None, ◌/◌}
use Rattle.csa_chain.specs.MemoryBytes.{Memory, byte_at, are_mapped, word_at, with_word, with_byte}

-- the n bytes from an address on are mapped and cross no multiple of 64
abbrev pub are_mapped_in_block : Memory → ℕ → ℕ → Bool
are_mapped_in_block m x n = nat_le (x % 64 + n) 64 && are_mapped m x n

-- the word at an address, its lowest byte first; None unless its bytes are mapped and in one block
abbrev pub mapped_word_in_block : Memory → ℕ → Option ℕ
mapped_word_in_block m x = if are_mapped_in_block m x 4 then Some (word_at m x) else None

-- the memory with this word at an address; unchanged unless its bytes are mapped and in one block
abbrev pub with_word_in_block : Memory → ℕ → ℕ → Memory
with_word_in_block m x w = if are_mapped_in_block m x 4 then with_word m x w else m

-- the halfword of the two bytes of a memory from an address on, the lower byte first
abbrev pub memory_half_at : Memory → ℕ → ℕ
memory_half_at m x = byte_at m x + 2 ^ 8 * byte_at m (x + 1)

-- the halfword at an address; None unless its two bytes are mapped and in one block
abbrev pub mapped_half_in_block : Memory → ℕ → Option ℕ
mapped_half_in_block m x = if are_mapped_in_block m x 2 then Some (memory_half_at m x) else None

-- the memory with the halfword h in the two bytes from an address on, the lower byte first
abbrev pub with_half : Memory → ℕ → ℕ → Memory
with_half m x h = with_byte (with_byte m x (h % 2 ^ 8)) (x + 1) (h / 2 ^ 8 % 2 ^ 8)

-- the memory with this halfword at an address; unchanged unless its bytes are mapped, in one block
abbrev pub with_half_in_block : Memory → ℕ → ℕ → Memory
with_half_in_block m x h = if are_mapped_in_block m x 2 then with_half m x h else m
