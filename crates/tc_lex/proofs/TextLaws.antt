-- Runs of bytes, and the kinds of tokens by their first bytes.
use Rattle.std.proofs.Common.{◌≡◌, ◌+◌, ◌<◌, ◌≤◌, ℕ, zero, suc, Bool, true, false, ◌&&◌, cond, List, [], ◌∷◌, length, take, refl, ap, ◌∙◌, arith}
use Rattle.std.specs.Prelude.{◌==◌}
use Rattle.std.specs.List.{prefix_len, list_all}
use Rattle.std.specs.Str.{bytes_eq}
use Rattle.std.proofs.Math.Bool.{and-false}
use Rattle.std.proofs.lemmas.List.{get_or-take, length-take-le}
use Rattle.std.proofs.lemmas.List.Sums.{prefix_len_stops}
use Rattle.std.proofs.lemmas.List.Folds.{list_all_at}
use Rattle.std.proofs.lemmas.Bool.Decides.{nat_tests}
use Rattle.tc_lex.specs.declared.kinds.TokenKind.{TokenKind}
use Rattle.tc_lex.specs.declared.kinds.TokenKind.TheVariants.{Word, Number, Comma, Colon, Open, Close, Plus, Minus}
use Rattle.tcd_base.specs.NameBytes.{is_name_start}
use Rattle.tc_lex.specs.Bytes.{is_digit, is_hex_digit}
use Rattle.tc_lex.specs.Texts.{is_run, is_hex_text, is_token_text}

-- ---- runs of bytes that pass a test
one_more : (p : ℕ → Bool) (x : ℕ) (xs : List ℕ) (n : ℕ) (b : Bool) → p x ≡ b → list_all p (take n xs) ≡ true → list_all p (take (cond b (1 + n) 0) (x ∷ xs)) ≡ true
one_more p x xs n true e h =
    let more : 1 + n ≡ suc n = omega arith in
    rw (more, e) h
one_more p x xs n false e h = refl

pub run_taken : (p : ℕ → Bool) (xs : List ℕ) → list_all p (take (prefix_len p xs) xs) ≡ true
run_taken p [] = refl
run_taken p (x ∷ xs) = one_more p x xs (prefix_len p xs) (p x) refl (run_taken p xs)

pub run_past : (p : ℕ → Bool) (xs : List ℕ) (n : ℕ) → prefix_len p xs < n → n ≤ length xs → list_all p (take n xs) ≡ false
run_past p xs n past within =
    list_all_at p (take n xs) (prefix_len p xs) 0 (omega (arith, length-take-le n xs within)) (ap p (get_or-take n xs (prefix_len p xs) 0 past) ∙ prefix_len_stops p xs 0 (omega arith))

-- a front that isn't empty
pub is_run-take : (first each : ℕ → Bool) (c : ℕ) (cs : List ℕ) (n : ℕ) → 0 < n → is_run first each (take n (c ∷ cs)) ≡ (first c && list_all each (take n (c ∷ cs)))
is_run-take first each c cs zero some = absurd (omega arith)
is_run-take first each c cs (suc n) some = refl

-- ---- bytes
pub digit_of_name : (c : ℕ) → is_name_start c ≡ true → is_digit c ≡ false
unfolding is_name_start is_digit
digit_of_name c h = grind (arith, nat_tests)

pub zero_of_digit : (c : ℕ) → is_digit c ≡ false → (c == 48) ≡ false
unfolding is_digit
zero_of_digit c h = grind (arith, nat_tests)

-- ---- the first byte determines the kind
abbrev pub starts : TokenKind → ℕ → Bool
starts Word c = is_name_start c
starts Number c = is_digit c
starts Comma c = c == 44
starts Colon c = c == 58
starts Open c = c == 91
starts Close c = c == 93
starts Plus c = c == 43
starts Minus c = c == 45

hex_not_begun : (c : ℕ) (bs : List ℕ) → (c == 48) ≡ false → is_hex_text (c ∷ bs) ≡ false
hex_not_begun c [] e = refl
hex_not_begun c (x ∷ []) e = refl
hex_not_begun c (x ∷ h ∷ hs) e = rw e refl

-- a text that begins with another byte is no token of the kind
pub not_begun : (kind : TokenKind) (c : ℕ) (cs : List ℕ) (n : ℕ) → starts kind c ≡ false → is_token_text kind (take n (c ∷ cs)) ≡ false
unfolding is_token_text
not_begun Word c cs zero e = refl
not_begun Word c cs (suc n) e = rw e refl
not_begun Number c cs zero e = refl
not_begun Number c cs (suc n) e = rw (e, hex_not_begun c (take n cs) (zero_of_digit c e)) refl
not_begun Comma c cs zero e = refl
not_begun Comma c cs (suc n) e = rw e refl
not_begun Colon c cs zero e = refl
not_begun Colon c cs (suc n) e = rw e refl
not_begun Open c cs zero e = refl
not_begun Open c cs (suc n) e = rw e refl
not_begun Close c cs zero e = refl
not_begun Close c cs (suc n) e = rw e refl
not_begun Plus c cs zero e = refl
not_begun Plus c cs (suc n) e = rw e refl
not_begun Minus c cs zero e = refl
not_begun Minus c cs (suc n) e = rw e refl

-- a text of one byte isn't one of more
pub past_one : (k : ℕ) (cs : List ℕ) (n : ℕ) → 1 < n → n ≤ length (k ∷ cs) → bytes_eq (take n (k ∷ cs)) (k ∷ []) ≡ false
past_one k cs zero past within = absurd (omega arith)
past_one k [] (suc n) past within = absurd (omega arith)
past_one k (d ∷ ds) (suc zero) past within = absurd (omega arith)
past_one k (d ∷ ds) (suc (suc n)) past within = and-false (k == k)

-- `0x` and more
pub hex_text : (z x : ℕ) (bs : List ℕ) → 0 < length bs → is_hex_text (z ∷ x ∷ bs) ≡ (z == 48 && (x == 120 && list_all is_hex_digit bs))
hex_text z x [] some = absurd (omega arith)
hex_text z x (h ∷ hs) some = refl

-- no token is empty
pub empty_none : (kind : TokenKind) → is_token_text kind [] ≡ false
unfolding is_token_text
empty_none Word = refl
empty_none _ = refl
