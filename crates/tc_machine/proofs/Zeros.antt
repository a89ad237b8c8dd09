-- What is mapped in ranges of zeros.
use Rattle.std.proofs.Common.{◌≡◌, ℕ, ◌+◌, ◌^◌, ◌<◌, inl, inr, Bool, true, false, ◌&&◌, cond, List, [], ◌∷◌, Some, None, sym, ap, ◌∙◌, arith, nat_le, nat_lt}
use Rattle.std.proofs.lemmas.Bool.{and_parts, and_from, or_cases, le-leb, leb-true, lt-ltb, ltb-true, or_right, or_left}
use Rattle.std.specs.FinMap as map
use Rattle.csa_chain.specs.MemoryBytes.{Memory, HasOnlyBytes}
use Rattle.tcd_base.specs.declared.range.Range.{Range}
use Rattle.tc_mem.specs.PlanMemory.{IsMemoryOfZeros}
use Rattle.tcd_base.specs.Ranges.{is_address_in_ranges, IsInOneRange}

pub is_in-from : (q : ℕ) (rs : List Range) → IsInOneRange q 1 rs → is_address_in_ranges rs q ≡ true
is_in-from q [] h = absurd h
is_in-from q (r ∷ rs) (inl h) =
    or_left _ (is_address_in_ranges rs q) (and_from (nat_le r.at q) (nat_lt q (r.at + r.len)) (le-leb r.at q h.0) (lt-ltb q (r.at + r.len) (let lt = h.1 in omega arith)))
is_in-from q (r ∷ rs) (inr h) = or_right _ (is_address_in_ranges rs q) (is_in-from q rs h)

pub is_in-one : (q : ℕ) (rs : List Range) → is_address_in_ranges rs q ≡ true → IsInOneRange q 1 rs
is_in-one q [] e = cc
is_in-one q (r ∷ rs) e =
    elim (or_cases (nat_le r.at q && nat_lt q (r.at + r.len)) (is_address_in_ranges rs q) e) [
      | inl here ↦
          let low = leb-true r.at q (and_parts (nat_le r.at q) (nat_lt q (r.at + r.len)) here).0 in
          let high = ltb-true q (r.at + r.len) (and_parts (nat_le r.at q) (nat_lt q (r.at + r.len)) here).1 in
          inl (low, omega arith)
      | inr rest ↦ inr (is_in-one q rs rest)
    ]

byte_zero : (t : Bool) (b : ℕ) → cond t (Some 0) None ≡ Some b → b < 2 ^ 8
byte_zero true b e = let z : 0 ≡ b = cc in omega arith
byte_zero false b e = cc

pub zeros_bytes : (ranges : List Range) (m : Memory) → IsMemoryOfZeros ranges m → HasOnlyBytes m
zeros_bytes ranges m zeros x b at = byte_zero (is_address_in_ranges ranges x) b (sym (zeros x) ∙ at)

pub zero_at : (ranges : List Range) (m : Memory) (q : ℕ) → IsMemoryOfZeros ranges m → IsInOneRange q 1 ranges → map.get m q ≡ Some 0
zero_at ranges m q zeros h = zeros q ∙ ap (λ t. cond t (Some 0) None) (is_in-from q ranges h)
