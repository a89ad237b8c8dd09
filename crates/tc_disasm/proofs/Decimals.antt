-- Decimal numbers are read back.
use Rattle.std.proofs.Common.{◌≡◌, ◌<◌, ◌≤◌, ◌+◌, ◌*◌, ◌/◌, ◌%◌, ◌^◌, ◌==◌, ◌&&◌, ◌++◌, ℕ, Bool, true, false, cond, List, [], ◌∷◌, length, refl, ap, ◌∙◌, arith, drop, length-append, Option, Some, None}
use Rattle.std.proofs.lemmas.Bool.{and_parts}
use Rattle.std.specs.Prelude.{fold, nat_lt}
use Rattle.std.specs.List.{list_all}
use Rattle.std.specs.Fmt.{decimal}
use Rattle.std.proofs.lemmas.Fmt.{decimal_by_steps}
use Rattle.std.proofs.lemmas.List.Sums.{fold_push}
use Rattle.std.proofs.lemmas.List.Folds.{list_all-append}
use Rattle.std.proofs.lemmas.Bool.Decides.{nat_tests}
use Rattle.tc_lex.specs.Bytes.{is_digit, is_hex_digit}
use Rattle.tc_lex.specs.Cut.{has_hex_prefix}
use Rattle.tc_lex.specs.Numbers.{token_digit_value, append_digit, token_number, below_2_128}

is_digit-of : (n : ℕ) → n < 10 → is_digit (48 + n) ≡ true
unfolding is_digit
is_digit-of n h = grind (arith, nat_tests)

digit_of-of : (n : ℕ) → n < 10 → token_digit_value (48 + n) ≡ n
unfolding token_digit_value
digit_of-of n h = rw (is_digit-of n h) (omega arith)

pub bounded-small : (n : ℕ) → n < 2 ^ 64 → below_2_128 n ≡ Some n
bounded-small n h = let small : nat_lt n (2 ^ 128) ≡ true = grind (arith, nat_tests) in ap (λ b. cond b (Some n) None) small

-- a further digit
added-digit : (m d n : ℕ) → d < 10 → m * 10 + d ≡ n → n < 2 ^ 64 → append_digit 10 (Some m) (48 + d) ≡ Some n
unfolding append_digit
added-digit m d n digit e small = ap (λ x. below_2_128 (m * 10 + x)) (digit_of-of d digit) ∙ ap below_2_128 e ∙ bounded-small n small

-- the digits of a number
pub record IsDigits (n : ℕ) (ds : List ℕ) : Type 0 where
  pub value : n < 2 ^ 64 → fold (append_digit 10) (Some 0) ds ≡ Some n
  pub digits : list_all is_digit ds ≡ true
  pub some : 0 < length ds

one : (n : ℕ) → n < 10 → IsDigits n ((48 + n) ∷ [])
one n h = record {
  value = λ small. added-digit 0 n n h (omega arith) small;
  digits = rw (is_digit-of n h) refl;
  some = omega arith;
}

more : (n : ℕ) (ds : List ℕ) → 10 ≤ n → IsDigits (n / 10) ds → IsDigits n (ds ++ ((48 + n % 10) ∷ []))
more n ds h before =
    let digit : n % 10 < 10 = omega arith in
    record {
      value = λ small.
          let front : fold (append_digit 10) (Some 0) ds ≡ Some (n / 10) = before.value (omega arith) in
          fold_push (append_digit 10) (Some 0) ds (48 + n % 10)
          ∙ ap (λ o. append_digit 10 o (48 + n % 10)) front
          ∙ added-digit (n / 10) (n % 10) n digit (omega arith) small;
      digits = list_all-append is_digit ds ((48 + n % 10) ∷ []) ∙ rw (before.digits, is_digit-of (n % 10) digit) refl;
      some = omega (arith, length-append ds ((48 + n % 10) ∷ []));
    }

pub decimal_is : (n : ℕ) → n < 2 ^ 64 → IsDigits n (decimal n)
decimal_is n h = decimal_by_steps IsDigits one more n h

-- equal contents of equal answers
pub some_is : {X : Type 0} (a b : X) → ◌≡◌ {A = Option X} (Some a) (Some b) → a ≡ b
some_is a b e = cc

pub dead : (x y w : Bool) → (x && y && false && w) ≡ false
dead true true w = refl
dead true false w = refl
dead false y w = refl

pub not_x : (b : ℕ) → is_digit b ≡ true → (b == 120) ≡ false
unfolding is_digit
not_x b e = grind (arith, nat_tests)

-- an `x` is no digit, so digits are no hex number
no_hex : (ds : List ℕ) → list_all is_digit ds ≡ true → has_hex_prefix ds ≡ false
unfolding has_hex_prefix
no_hex [] e = refl
no_hex (a ∷ []) e = refl
no_hex (a ∷ b ∷ []) e = refl
no_hex (a ∷ b ∷ c ∷ cs) e =
    let second : is_digit b ≡ true = (and_parts _ _ (and_parts _ _ e).1).0 in
    rw (not_x b second) (dead _ (a == 48) (is_hex_digit c))

pub number_of-decimal : (n : ℕ) → n < 2 ^ 64 → token_number (decimal n) ≡ Some n
unfolding token_number
number_of-decimal n h =
    let digits = decimal_is n h in
    ap (λ b. cond b (fold (append_digit 16) (Some 0) (drop 2 (decimal n))) (fold (append_digit 10) (Some 0) (decimal n))) (no_hex (decimal n) digits.digits) ∙ digits.value h
