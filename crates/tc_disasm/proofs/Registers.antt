-- Registers are read back.
use Rattle.std.proofs.Common.{◌≡◌, ◌<◌, ◌+◌, zero, suc, ℕ, Bool, true, false, cond, refl, arith}
use Rattle.tc_lex.specs.Bytes.{is_digit}
use Rattle.tc_stmt.specs.OperandForms.{register_number}
use Rattle.std.specs.Fmt.{digits}
use Rattle.tc_disasm.specs.Texts.{register_text}

sixteen : (P : ℕ → Type 0) → P 0 → P 1 → P 2 → P 3 → P 4 → P 5 → P 6 → P 7 → P 8 → P 9 → P 10 → P 11 → P 12 → P 13 → P 14 → P 15 → (n : ℕ) → n < 16 → P n
sixteen P a0 a1 a2 a3 a4 a5 a6 a7 a8 a9 a10 a11 a12 a13 a14 a15 zero h = a0
sixteen P a0 a1 a2 a3 a4 a5 a6 a7 a8 a9 a10 a11 a12 a13 a14 a15 (suc zero) h = a1
sixteen P a0 a1 a2 a3 a4 a5 a6 a7 a8 a9 a10 a11 a12 a13 a14 a15 (suc (suc zero)) h = a2
sixteen P a0 a1 a2 a3 a4 a5 a6 a7 a8 a9 a10 a11 a12 a13 a14 a15 (suc (suc (suc zero))) h = a3
sixteen P a0 a1 a2 a3 a4 a5 a6 a7 a8 a9 a10 a11 a12 a13 a14 a15 (suc (suc (suc (suc zero)))) h = a4
sixteen P a0 a1 a2 a3 a4 a5 a6 a7 a8 a9 a10 a11 a12 a13 a14 a15 (suc (suc (suc (suc (suc zero))))) h = a5
sixteen P a0 a1 a2 a3 a4 a5 a6 a7 a8 a9 a10 a11 a12 a13 a14 a15 (suc (suc (suc (suc (suc (suc zero)))))) h = a6
sixteen P a0 a1 a2 a3 a4 a5 a6 a7 a8 a9 a10 a11 a12 a13 a14 a15 (suc (suc (suc (suc (suc (suc (suc zero))))))) h = a7
sixteen P a0 a1 a2 a3 a4 a5 a6 a7 a8 a9 a10 a11 a12 a13 a14 a15 (suc (suc (suc (suc (suc (suc (suc (suc zero)))))))) h = a8
sixteen P a0 a1 a2 a3 a4 a5 a6 a7 a8 a9 a10 a11 a12 a13 a14 a15 (suc (suc (suc (suc (suc (suc (suc (suc (suc zero))))))))) h = a9
sixteen P a0 a1 a2 a3 a4 a5 a6 a7 a8 a9 a10 a11 a12 a13 a14 a15 (suc (suc (suc (suc (suc (suc (suc (suc (suc (suc zero)))))))))) h = a10
sixteen P a0 a1 a2 a3 a4 a5 a6 a7 a8 a9 a10 a11 a12 a13 a14 a15 (suc (suc (suc (suc (suc (suc (suc (suc (suc (suc (suc zero))))))))))) h = a11
sixteen P a0 a1 a2 a3 a4 a5 a6 a7 a8 a9 a10 a11 a12 a13 a14 a15 (suc (suc (suc (suc (suc (suc (suc (suc (suc (suc (suc (suc zero)))))))))))) h = a12
sixteen P a0 a1 a2 a3 a4 a5 a6 a7 a8 a9 a10 a11 a12 a13 a14 a15 (suc (suc (suc (suc (suc (suc (suc (suc (suc (suc (suc (suc (suc zero))))))))))))) h = a13
sixteen P a0 a1 a2 a3 a4 a5 a6 a7 a8 a9 a10 a11 a12 a13 a14 a15 (suc (suc (suc (suc (suc (suc (suc (suc (suc (suc (suc (suc (suc (suc zero)))))))))))))) h = a14
sixteen P a0 a1 a2 a3 a4 a5 a6 a7 a8 a9 a10 a11 a12 a13 a14 a15 (suc (suc (suc (suc (suc (suc (suc (suc (suc (suc (suc (suc (suc (suc (suc zero))))))))))))))) h = a15
sixteen P a0 a1 a2 a3 a4 a5 a6 a7 a8 a9 a10 a11 a12 a13 a14 a15 (suc (suc (suc (suc (suc (suc (suc (suc (suc (suc (suc (suc (suc (suc (suc (suc n)))))))))))))))) h = absurd (omega arith)

pub register_of-text : (bank : Bool) (n : ℕ) → n < 16 → register_number (register_text bank n) ≡ cond bank 16 0 + n
unfolding register_number is_digit register_text digits
register_of-text true n h = sixteen (λ m. register_number (register_text true m) ≡ 16 + m) refl refl refl refl refl refl refl refl refl refl refl refl refl refl refl refl n h
register_of-text false n h = sixteen (λ m. register_number (register_text false m) ≡ 0 + m) refl refl refl refl refl refl refl refl refl refl refl refl refl refl refl refl n h
