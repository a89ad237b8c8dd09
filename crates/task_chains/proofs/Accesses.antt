-- Loads and stores of the machine, compared with those of its view, in which ram isn't mapped.
use Rattle.std.proofs.Common.{◌≡◌, ℕ, zero, suc, ◌+◌, ◌*◌, ◌/◌, ◌%◌, ◌^◌, ◌<◌, ◌⊎◌, inl, inr, false, Option, Some, None, refl, sym, ap, ◌∙◌, subst, arith}
use Rattle.std.specs.Prelude.{unwrap_or}
use Rattle.std.specs.FinMap as map
use Rattle.csa_chain.specs.MemoryBytes.{Memory, is_mapped, loaded_number, with_bytes, HasOnlyBytes}
use Rattle.csa_chain.proofs.MemoryLaws.{with_byte_gone}

-- a byte that the view lacks, or has as the machine has it
abbrev pub Agrees : Memory → Memory → ℕ → Type 0
Agrees view mem y = (map.get view y ≡ None) ⊎ (map.get view y ≡ map.get mem y)

next_byte : (x i : ℕ) → ((x + 1) % 2 ^ 32 + i) % 2 ^ 32 ≡ (x + suc i) % 2 ^ 32
next_byte x i = omega arith

byte_lt : (o : Option ℕ) (input : ℕ) → ((b : ℕ) → o ≡ Some b → b < 2 ^ 8) → unwrap_or o (input % 2 ^ 8) < 2 ^ 8
byte_lt None input h = omega arith
byte_lt (Some b) input h = h b refl

low_part : (b l : ℕ) → b < 2 ^ 8 → (b + 2 ^ 8 * l) % 2 ^ 8 ≡ b
low_part b l lt = omega arith

high_part : (b l : ℕ) → b < 2 ^ 8 → (b + 2 ^ 8 * l) / 2 ^ 8 ≡ l
high_part b l lt = omega arith

-- a read gives the byte that is there, else the input's
one_byte : (seen o : Option ℕ) (input again : ℕ) → (seen ≡ None) ⊎ (seen ≡ o) → again ≡ unwrap_or o (input % 2 ^ 8) → unwrap_or seen again ≡ unwrap_or o (input % 2 ^ 8)
one_byte seen o input again (inl none) e = ap (λ p. unwrap_or p again) none ∙ e
one_byte seen None input again (inr same) e = ap (λ p. unwrap_or p again) same ∙ e
one_byte seen (Some b) input again (inr same) e = ap (λ p. unwrap_or p again) same

-- the view loads the same if its input is what the machine loaded
pub load_again : (view mem : Memory) → HasOnlyBytes mem → (n x input : ℕ) → ((i : ℕ) → i < n → Agrees view mem ((x + i) % 2 ^ 32)) → x < 2 ^ 32 → loaded_number view (loaded_number mem input x n) x n ≡ loaded_number mem input x n
unfolding loaded_number
load_again view mem bytes zero x input agrees lt = refl
load_again view mem bytes (suc n) x input agrees lt =
    let b = unwrap_or (map.get mem x) (input % 2 ^ 8) in
    let l = loaded_number mem (input / 2 ^ 8) ((x + 1) % 2 ^ 32) n in
    let small : b < 2 ^ 8 = byte_lt (map.get mem x) input (bytes x) in
    let here : (x + 0) % 2 ^ 32 ≡ x = omega arith in
    let first : unwrap_or (map.get view x) ((b + 2 ^ 8 * l) % 2 ^ 8) ≡ b =
    one_byte (map.get view x) (map.get mem x) input ((b + 2 ^ 8 * l) % 2 ^ 8) (subst (Agrees view mem) here (agrees 0 (omega arith))) (low_part b l small)
    in
    let rest : loaded_number view ((b + 2 ^ 8 * l) / 2 ^ 8) ((x + 1) % 2 ^ 32) n ≡ l =
    ap (λ w. loaded_number view w ((x + 1) % 2 ^ 32) n) (high_part b l small)
    ∙ load_again view mem bytes n ((x + 1) % 2 ^ 32) (input / 2 ^ 8) (λ i less. subst (Agrees view mem) (sym (next_byte x i)) (agrees (suc i) (omega arith))) (omega arith)
    in
    (λ i. first i + 2 ^ 8 * rest i)

-- a store to no mapped byte changes nothing
pub store_gone : (view : Memory) (n x w : ℕ) → ((i : ℕ) → i < n → is_mapped view ((x + i) % 2 ^ 32) ≡ false) → x < 2 ^ 32 → with_bytes view x w n ≡ view
unfolding with_bytes
store_gone view zero x w gone lt = refl
store_gone view (suc n) x w gone lt =
    let here : (x + 0) % 2 ^ 32 ≡ x = omega arith in
    ap (λ (m : Memory). with_bytes m ((x + 1) % 2 ^ 32) (w / 2 ^ 8) n) (with_byte_gone view x (w % 2 ^ 8) (subst (λ y. is_mapped view y ≡ false) here (gone 0 (omega arith))))
    ∙ store_gone view n ((x + 1) % 2 ^ 32) (w / 2 ^ 8) (λ i less. subst (λ y. is_mapped view y ≡ false) (sym (next_byte x i)) (gone (suc i) (omega arith))) (omega arith)
