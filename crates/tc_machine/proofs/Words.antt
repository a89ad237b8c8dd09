-- Bounds of words and bytes after operations, loads and stores.
use Rattle.std.proofs.Common.{◌≡◌, ℕ, zero, suc, ◌+◌, ◌-◌, ◌*◌, ◌/◌, ◌%◌, ◌^◌, ◌<◌, inl, inr, Bool, true, false, not, cond, List, length, get_or, set, Option, Some, None, refl, sym, subst, ◌∙◌, arith, length-set, bit_and, bit_or, bit_xor, unwrap_or, ◌==◌, nat_lt, nat_le}
use Rattle.std.proofs.lemmas.Bool.{cases_lt, cond_both}
use Rattle.std.proofs.lemmas.List.{get_or_past}
use Rattle.std.proofs.lemmas.List.Elements.{All-set}
use Rattle.std.proofs.Math.Nat.{div-le_self}
use Rattle.std.proofs.lemmas.Nat.{or_lt, and_le_l, xor_lt}
use Rattle.std.specs.FinMap as map
use Rattle.csa_chain.specs.MemoryBytes.{Memory, with_byte, loaded_number, with_bytes, load_result, HasOnlyBytes}
use Rattle.csa_chain.proofs.WordLaws.{HasBytes-with_byte}
use Rattle.tc_isa.specs.declared.shapes.Op.{Op}
use Rattle.tc_isa.specs.declared.shapes.Op.TheVariants as op
use Rattle.tc_isa.specs.Arithmetic.{signed_rank, complement, word_of_bool, logical_shift, arithmetic_shift, alu_of}
use Rattle.tc_machine.specs.Machine.{AreRegisters}
use Rattle.tc_machine.proofs.ShapeWords.{IsSize, extended_lt}

-- ---- registers
pub register_lt : (ws : List ℕ) → AreRegisters ws → (i : ℕ) → get_or ws i 0 < 2 ^ 32
register_lt ws h i =
    elim (cases_lt i (length ws)) [
      | inl within ↦ h.words i 0 within
      | inr past ↦ let e = get_or_past ws i 0 past in omega arith
    ]

pub AreRegisters-set : (ws : List ℕ) (i w : ℕ) → w < 2 ^ 32 → AreRegisters ws → AreRegisters (set ws i w)
AreRegisters-set ws i w small h = record { count = length-set ws i w ∙ h.count; words = All-set (λ x. x < 2 ^ 32) ws i w small h.words }

-- ---- operations
and_lt : (x y : ℕ) → x < 2 ^ 32 → bit_and x y < 2 ^ 32
and_lt x y h = let le = and_le_l x y in omega arith

complement_lt : (x : ℕ) → complement x < 2 ^ 32
complement_lt x = omega arith

one_if_lt : (b : Bool) → word_of_bool b < 2 ^ 32
one_if_lt true = omega arith
one_if_lt false = omega arith

divided_lt : (x k : ℕ) → x < 2 ^ 32 → x / k < 2 ^ 32
divided_lt x k h = let le = div-le_self x k in omega arith

shifted_lt : (x n : ℕ) → x < 2 ^ 32 → logical_shift x n < 2 ^ 32
shifted_lt x n h = cond_both (nat_lt n 32) (x * 2 ^ n % 2 ^ 32) (x / 2 ^ (64 - n)) (λ w. w < 2 ^ 32) (λ _. omega arith) (λ _. divided_lt x (2 ^ (64 - n)) h)

shifted_signed_lt : (x n : ℕ) → x < 2 ^ 32 → arithmetic_shift x n < 2 ^ 32
shifted_signed_lt x n h =
    cond_both (nat_lt n 32) (x * 2 ^ n % 2 ^ 32) (cond (nat_lt x (2 ^ 31)) (x / 2 ^ (64 - n)) (complement (complement x / 2 ^ (64 - n)))) (λ w. w < 2 ^ 32) (λ _. omega arith)
    (λ _. cond_both (nat_lt x (2 ^ 31)) (x / 2 ^ (64 - n)) (complement (complement x / 2 ^ (64 - n))) (λ w. w < 2 ^ 32) (λ _. divided_lt x (2 ^ (64 - n)) h) (λ _. complement_lt (complement x / 2 ^ (64 - n))))

pub alu_lt : (o : Op) (x y : ℕ) → x < 2 ^ 32 → y < 2 ^ 32 → alu_of o x y < 2 ^ 32
unfolding alu_of
alu_lt op.Second x y h g = g
alu_lt op.And x y h g = and_lt x y h
alu_lt op.Nand x y h g = complement_lt (bit_and x y)
alu_lt op.Or x y h g = or_lt 32 x y h g
alu_lt op.Nor x y h g = complement_lt (bit_or x y)
alu_lt op.Xor x y h g = xor_lt 32 x y h g
alu_lt op.Xnor x y h g = complement_lt (bit_xor x y)
alu_lt op.Andn x y h g = and_lt x (complement y) h
alu_lt op.Orn x y h g = or_lt 32 x (complement y) h (complement_lt y)
alu_lt op.Eq x y h g = one_if_lt (x == y)
alu_lt op.Ne x y h g = one_if_lt (not (x == y))
alu_lt op.Lt x y h g = one_if_lt (nat_lt (signed_rank x) (signed_rank y))
alu_lt op.LtU x y h g = one_if_lt (nat_lt x y)
alu_lt op.Ge x y h g = one_if_lt (nat_le (signed_rank y) (signed_rank x))
alu_lt op.GeU x y h g = one_if_lt (nat_le y x)
alu_lt op.Sh x y h g = shifted_lt x (y % 64) h
alu_lt op.Sha x y h g = shifted_signed_lt x (y % 64) h
alu_lt _ x y h g = omega arith

-- ---- loads and stores
byte_lt : (o : Option ℕ) (d : ℕ) → ((b : ℕ) → o ≡ Some b → b < 2 ^ 8) → d < 2 ^ 8 → unwrap_or o d < 2 ^ 8
byte_lt None d h g = g
byte_lt (Some b) d h g = h b refl

module _ (m : Memory) (bytes : HasOnlyBytes m) where
  loaded_byte : (input x : ℕ) → unwrap_or (map.get m x) (input % 2 ^ 8) < 2 ^ 8
  loaded_byte input x = byte_lt (map.get m x) (input % 2 ^ 8) (bytes x) (omega arith)

  loaded_1 : (input x : ℕ) → loaded_number m input x 1 < 2 ^ 8
  unfolding loaded_number
  loaded_1 input x = let b = loaded_byte input x in omega arith

  loaded_more : (n : ℕ) (p : ℕ) → ((input x : ℕ) → loaded_number m input x n < p) → (input x : ℕ) → loaded_number m input x (suc n) < 2 ^ 8 * p
  unfolding loaded_number
  loaded_more n p h input x = let b = loaded_byte input x in let rest = h (input / 2 ^ 8) ((x + 1) % 2 ^ 32) in omega arith

  loaded_2 : (input x : ℕ) → loaded_number m input x 2 < 2 ^ 16
  loaded_2 = loaded_more 1 (2 ^ 8) loaded_1

  loaded_4 : (input x : ℕ) → loaded_number m input x 4 < 2 ^ 32
  loaded_4 = loaded_more 3 (2 ^ 24) (loaded_more 2 (2 ^ 16) loaded_2)

  extended_1 : (signed : Bool) (input x : ℕ) → load_result signed 1 (loaded_number m input x 1) < 2 ^ 32
  extended_1 true input x = let l = loaded_1 input x in extended_lt (loaded_number m input x 1) (2 ^ 8) (nat_lt (loaded_number m input x 1) (2 ^ 7)) l (omega arith)
  extended_1 false input x = let l = loaded_1 input x in omega arith

  extended_2 : (signed : Bool) (input x : ℕ) → load_result signed 2 (loaded_number m input x 2) < 2 ^ 32
  extended_2 true input x = let l = loaded_2 input x in extended_lt (loaded_number m input x 2) (2 ^ 16) (nat_lt (loaded_number m input x 2) (2 ^ 15)) l (omega arith)
  extended_2 false input x = let l = loaded_2 input x in omega arith

  extended_4 : (signed : Bool) (input x : ℕ) → load_result signed 4 (loaded_number m input x 4) < 2 ^ 32
  extended_4 true input x = let l = loaded_4 input x in extended_lt (loaded_number m input x 4) (2 ^ 32) (nat_lt (loaded_number m input x 4) (2 ^ 31)) l (omega arith)
  extended_4 false input x = loaded_4 input x

  pub load_lt : (signed : Bool) (input x size : ℕ) → IsSize size → load_result signed size (loaded_number m input x size) < 2 ^ 32
  load_lt signed input x size (inl e) = subst (λ n. load_result signed n (loaded_number m input x n) < 2 ^ 32) (sym e) (extended_1 signed input x)
  load_lt signed input x size (inr (inl e)) = subst (λ n. load_result signed n (loaded_number m input x n) < 2 ^ 32) (sym e) (extended_2 signed input x)
  load_lt signed input x size (inr (inr e)) = subst (λ n. load_result signed n (loaded_number m input x n) < 2 ^ 32) (sym e) (extended_4 signed input x)

pub HasBytes-with_bytes : (m : Memory) (x w n : ℕ) → HasOnlyBytes m → HasOnlyBytes (with_bytes m x w n)
unfolding with_bytes
HasBytes-with_bytes m x w zero h = h
HasBytes-with_bytes m x w (suc n) h = HasBytes-with_bytes (with_byte m x (w % 2 ^ 8)) ((x + 1) % 2 ^ 32) (w / 2 ^ 8) n (HasBytes-with_byte m x (w % 2 ^ 8) (omega arith) h)
