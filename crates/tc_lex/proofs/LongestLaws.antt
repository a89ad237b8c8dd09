-- The token at the start of a text is the longest one there.
use Rattle.std.proofs.Common.{◌≡◌, ◌+◌, ◌<◌, ◌≤◌, ℕ, zero, suc, ◌⊎◌, inl, inr, Bool, true, false, ◌&&◌, ◌||◌, cond, List, [], ◌∷◌, length, take, drop, refl, ap, ◌∙◌, arith}
use Rattle.std.proofs.lemmas.Bool.{and_from}
use Rattle.std.specs.Prelude.{◌==◌}
use Rattle.std.specs.List.{prefix_len, list_all}
use Rattle.std.proofs.Math.Bool.{and-false}
use Rattle.std.proofs.lemmas.List.{length-take-le}
use Rattle.std.proofs.lemmas.List.Sums.{prefix_len-le-length}
use Rattle.std.proofs.lemmas.Bool.Decides.{nat_tests, Decides-eqb}
use Rattle.tc_lex.specs.declared.kinds.TokenKind.{TokenKind}
use Rattle.tc_lex.specs.declared.kinds.TokenKind.TheVariants.{Word, Number, Comma, Colon, Open, Close, Plus, Minus}
use Rattle.tcd_base.specs.NameBytes.{is_name_byte, is_name_start}
use Rattle.tc_lex.specs.Bytes.{is_digit, is_hex_digit}
use Rattle.tc_lex.specs.Cut.{number_len, has_hex_prefix, IsLongestToken, BeginsNoToken}
use Rattle.tc_lex.specs.Texts.{is_run, is_hex_text, is_token_text}
use Rattle.tc_lex.proofs.FrontLaws.{prefix_len_some}
use Rattle.tc_lex.proofs.TextLaws.{run_taken, run_past, is_run-take, digit_of_name, starts, not_begun, past_one, hex_text}

-- ---- tokens of one byte
-- a byte that no other kind begins with
abbrev OnlyStarts : TokenKind → ℕ → Type 0
OnlyStarts kind c = (other : TokenKind) → (other ≡ kind) ⊎ (starts other c ≡ false)

-- the longest token, from what its own kind says and from the first byte
longest_of : (kind : TokenKind) (len c : ℕ) (cs : List ℕ) → OnlyStarts kind c → len ≤ length (c ∷ cs) → is_token_text kind (take len (c ∷ cs)) ≡ true
    → ((n : ℕ) → len < n → n ≤ length (c ∷ cs) → is_token_text kind (take n (c ∷ cs)) ≡ false) → IsLongestToken kind len (c ∷ cs)
longest_of kind len c cs only within stands own = record {
  within = within;
  stands = stands;
  longest = λ other n past fits. by other n past fits (only other);
}
  where
    by : (other : TokenKind) (n : ℕ) → len < n → n ≤ length (c ∷ cs) → (other ≡ kind) ⊎ (starts other c ≡ false) → is_token_text other (take n (c ∷ cs)) ≡ false
    by other n past fits (inl e) = ap (λ k. is_token_text k (take n (c ∷ cs))) e ∙ own n past fits
    by other n past fits (inr e) = not_begun other c cs n e

only_comma : OnlyStarts Comma 44
unfolding is_name_start is_digit
only_comma Comma = inl refl
only_comma other = inr refl

only_colon : OnlyStarts Colon 58
unfolding is_name_start is_digit
only_colon Colon = inl refl
only_colon other = inr refl

only_open : OnlyStarts Open 91
unfolding is_name_start is_digit
only_open Open = inl refl
only_open other = inr refl

only_close : OnlyStarts Close 93
unfolding is_name_start is_digit
only_close Close = inl refl
only_close other = inr refl

only_plus : OnlyStarts Plus 43
unfolding is_name_start is_digit
only_plus Plus = inl refl
only_plus other = inr refl

only_minus : OnlyStarts Minus 45
unfolding is_name_start is_digit
only_minus Minus = inl refl
only_minus other = inr refl

pub comma_longest : (cs : List ℕ) → IsLongestToken Comma 1 (44 ∷ cs)
unfolding is_token_text
comma_longest cs = longest_of Comma 1 44 cs only_comma (omega arith) refl (past_one 44 cs)

pub colon_longest : (cs : List ℕ) → IsLongestToken Colon 1 (58 ∷ cs)
unfolding is_token_text
colon_longest cs = longest_of Colon 1 58 cs only_colon (omega arith) refl (past_one 58 cs)

pub open_longest : (cs : List ℕ) → IsLongestToken Open 1 (91 ∷ cs)
unfolding is_token_text
open_longest cs = longest_of Open 1 91 cs only_open (omega arith) refl (past_one 91 cs)

pub close_longest : (cs : List ℕ) → IsLongestToken Close 1 (93 ∷ cs)
unfolding is_token_text
close_longest cs = longest_of Close 1 93 cs only_close (omega arith) refl (past_one 93 cs)

pub plus_longest : (cs : List ℕ) → IsLongestToken Plus 1 (43 ∷ cs)
unfolding is_token_text
plus_longest cs = longest_of Plus 1 43 cs only_plus (omega arith) refl (past_one 43 cs)

pub minus_longest : (cs : List ℕ) → IsLongestToken Minus 1 (45 ∷ cs)
unfolding is_token_text
minus_longest cs = longest_of Minus 1 45 cs only_minus (omega arith) refl (past_one 45 cs)

-- ---- numbers
shown : (a b c d : Bool) → (((a && b) && c) && d) ≡ true → (b ≡ true) × (c ≡ true) × (d ≡ true)
shown true true true d e = (refl, refl, e)
shown true true false d e = cc
shown true false c d e = cc
shown false b c d e = cc

or_true : (b : Bool) → (b || true) ≡ true
or_true true = refl
or_true false = refl

-- `0x` and hex digits
module _ (h : ℕ) (hs : List ℕ) (hex : is_hex_digit h ≡ true) (only : OnlyStarts Number 48) where
  some_hex : 0 < prefix_len is_hex_digit (h ∷ hs)
  some_hex = prefix_len_some is_hex_digit (h ∷ hs) (omega arith) hex

  hex_stands : (m : ℕ) → m ≡ prefix_len is_hex_digit (h ∷ hs) → is_token_text Number (take (suc (suc m)) (48 ∷ 120 ∷ h ∷ hs)) ≡ true
  unfolding is_token_text
  hex_stands m e =
      let some : 0 < length (take m (h ∷ hs)) = omega (arith, length-take-le m (h ∷ hs), prefix_len-le-length is_hex_digit (h ∷ hs), some_hex) in
      let all : list_all is_hex_digit (take m (h ∷ hs)) ≡ true = rw e (run_taken is_hex_digit (h ∷ hs)) in
      ap (λ b. is_run is_digit is_digit (48 ∷ 120 ∷ take m (h ∷ hs)) || b) (hex_text 48 120 (take m (h ∷ hs)) some ∙ all) ∙ or_true _

  hex_past : (n : ℕ) → 2 + prefix_len is_hex_digit (h ∷ hs) < n → n ≤ length (48 ∷ 120 ∷ h ∷ hs) → is_token_text Number (take n (48 ∷ 120 ∷ h ∷ hs)) ≡ false
  unfolding is_token_text is_digit
  hex_past zero past within = absurd (omega arith)
  hex_past (suc zero) past within = absurd (omega arith)
  hex_past (suc (suc m)) past within =
      let some : 0 < length (take m (h ∷ hs)) = omega (arith, length-take-le m (h ∷ hs), some_hex) in
      hex_text 48 120 (take m (h ∷ hs)) some ∙ run_past is_hex_digit (h ∷ hs) m (omega arith) (omega arith)

  hex_longest : IsLongestToken Number (2 + prefix_len is_hex_digit (h ∷ hs)) (48 ∷ 120 ∷ h ∷ hs)
  hex_longest =
      let two : 2 + prefix_len is_hex_digit (h ∷ hs) ≡ suc (suc (prefix_len is_hex_digit (h ∷ hs))) = omega arith in
      longest_of Number (2 + prefix_len is_hex_digit (h ∷ hs)) 48 (120 ∷ h ∷ hs) only (omega (arith, prefix_len-le-length is_hex_digit (h ∷ hs)))
      (ap (λ n. is_token_text Number (take n (48 ∷ 120 ∷ h ∷ hs))) two ∙ hex_stands (prefix_len is_hex_digit (h ∷ hs)) refl)
      hex_past

-- a text that has this front
hex_front : (c : ℕ) (cs : List ℕ) → has_hex_prefix (c ∷ cs) ≡ true → OnlyStarts Number c → IsLongestToken Number (2 + prefix_len is_hex_digit (drop 2 (c ∷ cs))) (c ∷ cs)
unfolding has_hex_prefix
hex_front c [] e only = cc
hex_front c (x ∷ []) e only = cc
hex_front c (x ∷ h ∷ hs) e only =
    let each = shown _ (c == 48) (x == 120) (is_hex_digit h) e in
    let zero_is : c ≡ 48 = (Decides-eqb c 48).0 each.0 in
    let x_is : x ≡ 120 = (Decides-eqb x 120).0 each.1 in
    rw (zero_is, x_is) (hex_longest h hs each.2 (rw zero_is at only))

hidden : (a b c d e : Bool) → a ≡ true → (((a && b) && c) && d) ≡ false → (b && (c && (d && e))) ≡ false
hidden a true true true e p q = cc
hidden a true true false e p q = refl
hidden a true false d e p q = refl
hidden a false c d e p q = refl

no_hex : (c : ℕ) (cs : List ℕ) (n : ℕ) → has_hex_prefix (c ∷ cs) ≡ false → is_hex_text (take n (c ∷ cs)) ≡ false
unfolding has_hex_prefix
no_hex c cs zero e = refl
no_hex c cs (suc zero) e = refl
no_hex c [] (suc (suc n)) e = refl
no_hex c (x ∷ xs) (suc (suc zero)) e = refl
no_hex c (x ∷ []) (suc (suc (suc n))) e = refl
no_hex c (x ∷ h ∷ hs) (suc (suc (suc n))) e = hidden _ (c == 48) (x == 120) (is_hex_digit h) (list_all is_hex_digit (take n hs)) (grind (arith, nat_tests)) e

digits_longest : (c : ℕ) (cs : List ℕ) → has_hex_prefix (c ∷ cs) ≡ false → is_digit c ≡ true → OnlyStarts Number c → IsLongestToken Number (prefix_len is_digit (c ∷ cs)) (c ∷ cs)
unfolding is_token_text
digits_longest c cs e d only =
    let some : 0 < prefix_len is_digit (c ∷ cs) = prefix_len_some is_digit (c ∷ cs) (omega arith) d in
    let run : is_run is_digit is_digit (take (prefix_len is_digit (c ∷ cs)) (c ∷ cs)) ≡ true = is_run-take is_digit is_digit c cs (prefix_len is_digit (c ∷ cs)) some ∙ and_from (is_digit c) _ d (run_taken is_digit (c ∷ cs)) in
    longest_of Number (prefix_len is_digit (c ∷ cs)) c cs only (prefix_len-le-length is_digit (c ∷ cs))
    (ap (λ b. b || is_hex_text (take (prefix_len is_digit (c ∷ cs)) (c ∷ cs))) run)
    (λ n past fits.
    ap (λ b. b || is_hex_text (take n (c ∷ cs))) (is_run-take is_digit is_digit c cs n (omega arith) ∙ ap (λ b. is_digit c && b) (run_past is_digit (c ∷ cs) n past fits) ∙ and-false (is_digit c))
    ∙ no_hex c cs n e)

number_by : (c : ℕ) (cs : List ℕ) (b : Bool) → has_hex_prefix (c ∷ cs) ≡ b → is_digit c ≡ true → OnlyStarts Number c → IsLongestToken Number (cond b (2 + prefix_len is_hex_digit (drop 2 (c ∷ cs))) (prefix_len is_digit (c ∷ cs))) (c ∷ cs)
number_by c cs true e d only = hex_front c cs e only
number_by c cs false e d only = digits_longest c cs e d only

-- ---- words and numbers
-- a byte that begins no token of one byte
pub record NoSymbol (c : ℕ) : Type 0 where
  pub comma : (c == 44) ≡ false
  pub colon : (c == 58) ≡ false
  pub opened : (c == 91) ≡ false
  pub closed : (c == 93) ≡ false
  pub plus : (c == 43) ≡ false
  pub minus : (c == 45) ≡ false

module _ (c : ℕ) (cs : List ℕ) (symbol : NoSymbol c) where
  only_word : is_name_start c ≡ true → OnlyStarts Word c
  only_word h Word = inl refl
  only_word h Number = inr (digit_of_name c h)
  only_word h Comma = inr symbol.comma
  only_word h Colon = inr symbol.colon
  only_word h Open = inr symbol.opened
  only_word h Close = inr symbol.closed
  only_word h Plus = inr symbol.plus
  only_word h Minus = inr symbol.minus

  only_number : is_name_start c ≡ false → OnlyStarts Number c
  only_number h Word = inr h
  only_number h Number = inl refl
  only_number h Comma = inr symbol.comma
  only_number h Colon = inr symbol.colon
  only_number h Open = inr symbol.opened
  only_number h Close = inr symbol.closed
  only_number h Plus = inr symbol.plus
  only_number h Minus = inr symbol.minus

  pub begins_none : is_name_start c ≡ false → is_digit c ≡ false → BeginsNoToken (c ∷ cs)
  begins_none h d kind n within = not_begun kind c cs n (by kind)
    where
      by : (kind : TokenKind) → starts kind c ≡ false
      by Word = h
      by Number = d
      by Comma = symbol.comma
      by Colon = symbol.colon
      by Open = symbol.opened
      by Close = symbol.closed
      by Plus = symbol.plus
      by Minus = symbol.minus

  named_byte : is_name_start c ≡ true → is_name_byte c ≡ true
  unfolding is_name_byte
  named_byte h = rw h refl

  pub word_longest : is_name_start c ≡ true → IsLongestToken Word (prefix_len is_name_byte (c ∷ cs)) (c ∷ cs)
  unfolding is_token_text
  word_longest h =
      let some : 0 < prefix_len is_name_byte (c ∷ cs) = prefix_len_some is_name_byte (c ∷ cs) (omega arith) (named_byte h) in
      longest_of Word (prefix_len is_name_byte (c ∷ cs)) c cs (only_word h) (prefix_len-le-length is_name_byte (c ∷ cs))
      (is_run-take is_name_start is_name_byte c cs (prefix_len is_name_byte (c ∷ cs)) some ∙ and_from (is_name_start c) _ h (run_taken is_name_byte (c ∷ cs)))
      (λ n past fits. is_run-take is_name_start is_name_byte c cs n (omega arith) ∙ ap (λ b. is_name_start c && b) (run_past is_name_byte (c ∷ cs) n past fits) ∙ and-false (is_name_start c))

  pub number_longest : is_name_start c ≡ false → is_digit c ≡ true → IsLongestToken Number (number_len (c ∷ cs)) (c ∷ cs)
  unfolding number_len
  number_longest h d = number_by c cs (has_hex_prefix (c ∷ cs)) refl d (only_number h)
