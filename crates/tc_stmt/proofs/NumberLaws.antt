-- Numbers and their digits.
use Rattle.std.proofs.Common.{◌≡◌, ◌≤◌, ◌+◌, ◌*◌, ◌^◌, ℕ, Bool, true, false, cond, List, [], ◌∷◌, drop, Some, None, refl, ap, sym, ◌∙◌, arith, mul-le-mul_left}
use Rattle.std.specs.Prelude.{fold, nat_lt, option_and_then}
use Rattle.std.proofs.lemmas.Bool.{ltb-true, ltb-false}
use Rattle.tc_lex.specs.Cut.{has_hex_prefix}
use Rattle.tc_lex.specs.Numbers.{token_digit_value, below_2_128, append_digit, token_number, exact_token_number, TokenNumbersAreExact}

-- a further digit of a number that is too large is too large
grown : (base n d : ℕ) → 1 ≤ base → 2 ^ 128 ≤ n → 2 ^ 128 ≤ n * base + d
grown base n d some large = let h : n * 1 ≤ n * base = mul-le-mul_left n some in omega (arith, h)

-- a number that is too large isn't below the bound
past : (k : ℕ) → 2 ^ 128 ≤ k → nat_lt k (2 ^ 128) ≡ false
past k h = by_less (nat_lt k (2 ^ 128)) refl
  where
    by_less : (b : Bool) → nat_lt k (2 ^ 128) ≡ b → b ≡ false
    by_less true e = let less = ltb-true k (2 ^ 128) e in absurd (omega arith)
    by_less false e = refl

digit_bounded : (base n c : ℕ) → 1 ≤ base → append_digit base (below_2_128 n) c ≡ below_2_128 (n * base + token_digit_value c)
unfolding append_digit
digit_bounded base n c some = by (nat_lt n (2 ^ 128)) refl
  where
    by : (b : Bool) → nat_lt n (2 ^ 128) ≡ b → option_and_then (λ k. below_2_128 (k * base + token_digit_value c)) (cond b (Some n) None) ≡ below_2_128 (n * base + token_digit_value c)
    by true e = refl
    by false e =
        let large = ltb-false n (2 ^ 128) e in
        let not_below : nat_lt (n * base + token_digit_value c) (2 ^ 128) ≡ false = past (n * base + token_digit_value c) (grown base n (token_digit_value c) some large) in
        ap (λ b. cond b (Some (n * base + token_digit_value c)) None) (sym not_below)

digits_bounded : (base : ℕ) (text : List ℕ) (n : ℕ) → 1 ≤ base → fold (append_digit base) (below_2_128 n) text ≡ below_2_128 (fold (λ k c. k * base + token_digit_value c) n text)
digits_bounded base [] n some = refl
digits_bounded base (c ∷ cs) n some = ap (λ o. fold (append_digit base) o cs) (digit_bounded base n c some) ∙ digits_bounded base cs (n * base + token_digit_value c) some

pub number_law : TokenNumbersAreExact
unfolding token_number exact_token_number
number_law text = by (has_hex_prefix text)
  where
    by : (b : Bool) → cond b (fold (append_digit 16) (Some 0) (drop 2 text)) (fold (append_digit 10) (Some 0) text)
        ≡ below_2_128 (cond b (fold (λ k c. k * 16 + token_digit_value c) 0 (drop 2 text)) (fold (λ k c. k * 10 + token_digit_value c) 0 text))
    by true = digits_bounded 16 (drop 2 text) 0 (omega arith)
    by false = digits_bounded 10 text 0 (omega arith)
