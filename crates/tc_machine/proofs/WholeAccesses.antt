-- Words and halfwords read and written at once are what their bytes are one by one.
use Rattle.std.proofs.Common.{◌≡◌, ℕ, ◌+◌, ◌*◌, ◌/◌, ◌%◌, ◌^◌, ◌<◌, ◌≤◌, Bool, true, false, cond, [], ◌∷◌, Option, Some, None, refl, sym, ap, ◌∙◌, arith, add-zero, nat_le}
use Rattle.std.specs.Prelude.{is_some, unwrap_or}
use Rattle.std.specs.Bool.{MatchBool}
use Rattle.std.proofs.lemmas.Bool.{and_parts, leb-true}
use Rattle.std.proofs.lemmas.Option.{cond_some}
use Rattle.std.specs.FinMap as map
use Rattle.csa_chain.specs.MemoryBytes.{Memory, is_mapped, byte_at, are_mapped, word_at, with_word, loaded_number, with_bytes, HasOnlyBytes}
use Rattle.csa_chain.specs.Chain.{link_address, is_area_mapped, area_word}
use Rattle.csa_chain.proofs.ChainLaws.{are_mapped_each}
use Rattle.tcd_base.specs.Bytes.{bytes_of_word}
use Rattle.tc_mem.specs.Blocks.{are_mapped_in_block, mapped_word_in_block, memory_half_at, mapped_half_in_block, with_word_in_block, with_half_in_block, with_half}
use Rattle.tc_mem.specs.Areas.{area_first_word}
use Rattle.tc_machine.specs.Fetching.{mapped_bytes}

-- ---- the bytes of a block
some_byte : (o : Option ℕ) (d : ℕ) → is_some o ≡ true → unwrap_or o d ≡ unwrap_or o 0
some_byte None d h = cc
some_byte (Some b) d h = refl

is_byte : (o : Option ℕ) → is_some o ≡ true → o ≡ Some (unwrap_or o 0)
is_byte None h = cc
is_byte (Some b) h = refl

some_lt : (o : Option ℕ) → ((b : ℕ) → o ≡ Some b → b < 2 ^ 8) → unwrap_or o 0 < 2 ^ 8
some_lt None h = omega arith
some_lt (Some b) h = h b refl

-- a block doesn't wrap, and each of its bytes is mapped
record IsBlock (m : Memory) (x n : ℕ) : Type 0 where
  ends : x + n ≤ 2 ^ 32
  mapped : (j : ℕ) → j < n → is_mapped m (x + j) ≡ true

is_block : (m : Memory) (x n : ℕ) → x < 2 ^ 32 → are_mapped_in_block m x n ≡ true → IsBlock m x n
is_block m x n small here =
    let both = and_parts (nat_le (x % 64 + n) 64) (are_mapped m x n) here in
    let inside = leb-true (x % 64 + n) 64 both.0 in
    record { ends = omega arith; mapped = are_mapped_each m x n both.1 }

next_1 : (x : ℕ) → x + 2 ≤ 2 ^ 32 → (x + 1) % 2 ^ 32 ≡ x + 1
next_1 x h = omega arith

next_2 : (x : ℕ) → x + 3 ≤ 2 ^ 32 → (x + 1 + 1) % 2 ^ 32 ≡ x + 2
next_2 x h = omega arith

next_3 : (x : ℕ) → x + 4 ≤ 2 ^ 32 → (x + 2 + 1) % 2 ^ 32 ≡ x + 3
next_3 x h = omega arith

-- ---- loads
pub loaded_word : (m : Memory) (input x w : ℕ) → x < 2 ^ 32 → Some w ≡ mapped_word_in_block m x → w ≡ loaded_number m input x 4
unfolding loaded_number word_at
loaded_word m input x w small is =
    let parts = cond_some (are_mapped_in_block m x 4) (word_at m x) w (sym is) in
    let block = is_block m x 4 small parts.0 in
    let e1 = next_1 x (omega (arith, block.ends)) in
    let e2 = next_2 x (omega (arith, block.ends)) in
    let e3 = next_3 x (omega (arith, block.ends)) in
    let b0 = some_byte (map.get m x) (input % 2 ^ 8) (rw add-zero at (block.mapped 0 (omega arith))) in
    let b1 = some_byte (map.get m (x + 1)) (input / 2 ^ 8 % 2 ^ 8) (block.mapped 1 (omega arith)) in
    let b2 = some_byte (map.get m (x + 2)) (input / 2 ^ 8 / 2 ^ 8 % 2 ^ 8) (block.mapped 2 (omega arith)) in
    let b3 = some_byte (map.get m (x + 3)) (input / 2 ^ 8 / 2 ^ 8 / 2 ^ 8 % 2 ^ 8) (block.mapped 3 (omega arith)) in
    let value : w ≡ byte_at m x + 2 ^ 8 * byte_at m (x + 1) + 2 ^ 16 * byte_at m (x + 2) + 2 ^ 24 * byte_at m (x + 3) = sym parts.1 in
    rw (e1, e2, e3, b0, b1, b2, b3) (omega (arith, value))

pub loaded_half : (m : Memory) (input x h : ℕ) → x < 2 ^ 32 → Some h ≡ mapped_half_in_block m x → h ≡ loaded_number m input x 2
unfolding loaded_number
loaded_half m input x h small is =
    let parts = cond_some (are_mapped_in_block m x 2) (memory_half_at m x) h (sym is) in
    let block = is_block m x 2 small parts.0 in
    let e1 = next_1 x (omega (arith, block.ends)) in
    let b0 = some_byte (map.get m x) (input % 2 ^ 8) (rw add-zero at (block.mapped 0 (omega arith))) in
    let b1 = some_byte (map.get m (x + 1)) (input / 2 ^ 8 % 2 ^ 8) (block.mapped 1 (omega arith)) in
    let value : h ≡ byte_at m x + 2 ^ 8 * byte_at m (x + 1) = sym parts.1 in
    rw (e1, b0, b1) (omega (arith, value))

-- ---- the bytes of an instruction
pub mapped_word : (m : Memory) (x w : ℕ) → HasOnlyBytes m → x < 2 ^ 32 → Some w ≡ mapped_word_in_block m x → bytes_of_word w ≡ mapped_bytes 4 m x
unfolding mapped_bytes word_at
mapped_word m x w bytes small is =
    let parts = cond_some (are_mapped_in_block m x 4) (word_at m x) w (sym is) in
    let block = is_block m x 4 small parts.0 in
    let e1 = next_1 x (omega (arith, block.ends)) in
    let e2 = next_2 x (omega (arith, block.ends)) in
    let e3 = next_3 x (omega (arith, block.ends)) in
    let l0 = some_lt (map.get m x) (bytes x) in
    let l1 = some_lt (map.get m (x + 1)) (bytes (x + 1)) in
    let l2 = some_lt (map.get m (x + 2)) (bytes (x + 2)) in
    let l3 = some_lt (map.get m (x + 3)) (bytes (x + 3)) in
    let value : w ≡ byte_at m x + 2 ^ 8 * byte_at m (x + 1) + 2 ^ 16 * byte_at m (x + 2) + 2 ^ 24 * byte_at m (x + 3) = sym parts.1 in
    let v0 : w % 256 ≡ byte_at m x = omega arith in
    let v1 : w / 256 % 256 ≡ byte_at m (x + 1) = omega arith in
    let v2 : w / 65536 % 256 ≡ byte_at m (x + 2) = omega arith in
    let v3 : w / 16777216 % 256 ≡ byte_at m (x + 3) = omega arith in
    let g0 = is_byte (map.get m x) (rw add-zero at (block.mapped 0 (omega arith))) in
    let g1 = is_byte (map.get m (x + 1)) (block.mapped 1 (omega arith)) in
    let g2 = is_byte (map.get m (x + 2)) (block.mapped 2 (omega arith)) in
    let g3 = is_byte (map.get m (x + 3)) (block.mapped 3 (omega arith)) in
    four_bytes m x w v0 v1 v2 v3 ∙ sym (rw (e1, e2, e3, g0, g1, g2, g3) refl)
  where
    four_bytes : (m : Memory) (x w : ℕ) → w % 256 ≡ byte_at m x → w / 256 % 256 ≡ byte_at m (x + 1) → w / 65536 % 256 ≡ byte_at m (x + 2) → w / 16777216 % 256 ≡ byte_at m (x + 3) → bytes_of_word w ≡ byte_at m x ∷ byte_at m (x + 1) ∷ byte_at m (x + 2) ∷ byte_at m (x + 3) ∷ []
    four_bytes m x w v0 v1 v2 v3 = rw (v0, v1, v2, v3) refl

-- ---- stores
stored_word : (m : Memory) (x w : ℕ) → x + 4 ≤ 2 ^ 32 → with_bytes m x w 4 ≡ with_word m x w
unfolding with_bytes with_word
stored_word m x w h =
    let e1 = next_1 x (omega arith) in
    let e2 = next_2 x (omega arith) in
    let e3 = next_3 x (omega arith) in
    let v2 : w / 2 ^ 8 / 2 ^ 8 % 2 ^ 8 ≡ w / 2 ^ 16 % 2 ^ 8 = omega arith in
    let v3 : w / 2 ^ 8 / 2 ^ 8 / 2 ^ 8 % 2 ^ 8 ≡ w / 2 ^ 24 % 2 ^ 8 = omega arith in
    rw (e1, e2, e3, v2, v3) refl

stored_half : (m : Memory) (x w : ℕ) → x + 2 ≤ 2 ^ 32 → with_bytes m x w 2 ≡ with_half m x (w % 2 ^ 16)
unfolding with_bytes
stored_half m x w h =
    let e1 = next_1 x (omega arith) in
    let v0 : w % 2 ^ 16 % 2 ^ 8 ≡ w % 2 ^ 8 = omega arith in
    let v1 : w % 2 ^ 16 / 2 ^ 8 % 2 ^ 8 ≡ w / 2 ^ 8 % 2 ^ 8 = omega arith in
    rw (e1, v0, v1) refl

pub whole_word : (m n : Memory) (x w : ℕ) (t : Bool) → x < 2 ^ 32 → t ≡ are_mapped_in_block m x 4 → n ≡ with_word_in_block m x w → MatchBool t (n ≡ with_bytes m x w 4) (n ≡ m)
whole_word m n x w true small here is =
    let block = is_block m x 4 small (sym here) in
    is ∙ ap (λ (t : Bool). cond t (with_word m x w) m) (sym here) ∙ sym (stored_word m x w block.ends)
whole_word m n x w false small gone is = is ∙ ap (λ (t : Bool). cond t (with_word m x w) m) (sym gone)

pub whole_half : (m n : Memory) (x w : ℕ) (t : Bool) → x < 2 ^ 32 → t ≡ are_mapped_in_block m x 2 → n ≡ with_half_in_block m x (w % 2 ^ 16) → MatchBool t (n ≡ with_bytes m x w 2) (n ≡ m)
whole_half m n x w true small here is =
    let block = is_block m x 2 small (sym here) in
    is ∙ ap (λ (t : Bool). cond t (with_half m x (w % 2 ^ 16)) m) (sym here) ∙ sym (stored_half m x w block.ends)
whole_half m n x w false small gone is = is ∙ ap (λ (t : Bool). cond t (with_half m x (w % 2 ^ 16)) m) (sym gone)

pub put_whole : (m n : Memory) (x w : ℕ) (t : Bool) → t ≡ are_mapped_in_block m x 4 → n ≡ with_word_in_block m x w → t ≡ true → n ≡ with_word m x w
put_whole m n x w t is written here = written ∙ ap (λ (t : Bool). cond t (with_word m x w) m) (sym is ∙ here)

pub put_none : (m n : Memory) (x w : ℕ) (t : Bool) → t ≡ are_mapped_in_block m x 4 → n ≡ with_word_in_block m x w → t ≡ false → n ≡ m
put_none m n x w t is written gone = written ∙ ap (λ (t : Bool). cond t (with_word m x w) m) (sym is ∙ gone)

-- ---- word 0 of an area
pub first_of_area : (m : Memory) (link : ℕ) → area_first_word m (link_address link) ≡ cond (is_area_mapped m link) (Some (area_word m link 0)) None
first_of_area m link =
    let start : link_address link ≡ link_address link + 4 * 0 = omega arith in
    ap (λ (y : ℕ). cond {A = Option ℕ} (is_area_mapped m link) (Some (word_at m y)) None) start
