-- The token at the start of a text is its first token.
use Rattle.std.proofs.Common.{◌≡◌, ◌<◌, ◌+◌, ◌-◌, ◌==◌, ◌||◌, zero, suc, ℕ, Bool, true, false, cond, List, [], ◌∷◌, ◌++◌, length, take, drop, Option, None, refl, ap, sym, ◌∙◌, arith, inl, inr}
use Rattle.std.specs.Prelude.{option_map, nat_lt, slice_index}
use Rattle.std.specs.List.{prefix_len, list_all}
use Rattle.std.proofs.Math.Dec.{eqb-suc-zero}
use Rattle.std.proofs.lemmas.Bool.Decides.{nat_tests, eqb_tells}
use Rattle.std.proofs.lemmas.Bool.{true≢false, and_parts}
use Rattle.std.proofs.lemmas.List.{take_at, drop_at}
use Rattle.tc_lex.specs.declared.kinds.TokenKind.{TokenKind}
use Rattle.tc_lex.specs.declared.kinds.TokenKind.TheVariants.{Word, Number}
use Rattle.tc_lex.specs.declared.kinds.Front.TheVariants as front
use Rattle.tcd_base.specs.NameBytes.{is_name_byte, is_name_start}
use Rattle.tc_lex.specs.Bytes.{is_digit, is_hex_digit}
use Rattle.tc_lex.specs.Cut.{first_token_of, first_token_by_byte, number_len, has_hex_prefix}
use Rattle.tc_lex.specs.Pieces.{PieceData}
use Rattle.tc_disasm.specs.Tokens.{printed_token}
use Rattle.tc_disasm.specs.Lexed.{listing_tokens, listing_tokens_after, IsTokenEnd}
use Rattle.tc_disasm.proofs.Decimals.{dead, not_x}

lexed-skip : (n : ℕ) (text : List ℕ) (room : ℕ) → listing_tokens text room n ≡ listing_tokens (drop n text) room 0
unfolding listing_tokens
lexed-skip zero text room = refl
lexed-skip (suc n) [] room = refl
lexed-skip (suc n) (c ∷ cs) room = lexed-skip n cs room

room_more : (room : ℕ) (o : Option (List PieceData)) → cond (suc room == 0) None o ≡ o
room_more room o = rw (eqb-suc-zero room) refl

-- a token at the front, and then the rest
pub lexed-front : (kind : TokenKind) (c : ℕ) (cs rest : List ℕ) (room : ℕ) → first_token_of ((c ∷ cs) ++ rest) ≡ front.Token kind (length (c ∷ cs))
    → listing_tokens ((c ∷ cs) ++ rest) (suc room) 0 ≡ option_map (λ ps. printed_token kind (c ∷ cs) ∷ ps) (listing_tokens rest room 0)
unfolding listing_tokens
lexed-front kind c cs rest room e =
    let w : List ℕ = c ∷ cs in
    let taken : take (length w) (w ++ rest) ≡ w = take_at w rest (length w) refl in
    let dropped : drop (length cs) (cs ++ rest) ≡ rest = drop_at cs rest (length cs) refl in
    ap (λ f. listing_tokens_after f (w ++ rest) (suc room) (listing_tokens (cs ++ rest))) e
    ∙ room_more room _
    ∙ ap (λ t. option_map (λ ps. printed_token kind t ∷ ps) (listing_tokens (cs ++ rest) (suc room - 1) (length w - 1))) taken
    ∙ ap (λ r. option_map (λ ps. printed_token kind w ∷ ps) (listing_tokens (cs ++ rest) r (length w - 1))) (omega arith)
    ∙ ap (λ n. option_map (λ ps. printed_token kind w ∷ ps) (listing_tokens (cs ++ rest) room n)) (omega arith)
    ∙ ap (option_map (λ ps. printed_token kind w ∷ ps)) (lexed-skip (length cs) (cs ++ rest) room ∙ ap (λ t. listing_tokens t room 0) dropped)

pub prefix_len-front : (p : ℕ → Bool) (w rest : List ℕ) → list_all p w ≡ true → prefix_len p rest ≡ 0 → prefix_len p (w ++ rest) ≡ length w
prefix_len-front p [] rest e stop = stop
prefix_len-front p (x ∷ xs) rest e stop =
    let here = and_parts (p x) (list_all p xs) e in
    rw here.0 (ap (λ n. 1 + n) (prefix_len-front p xs rest here.1 stop) ∙ omega arith)

name_stops : (rest : List ℕ) → IsTokenEnd rest → prefix_len is_name_byte rest ≡ 0
name_stops [] h = refl
name_stops (c ∷ cs) h = rw h refl

digit_is_name : (c : ℕ) → is_name_byte c ≡ false → is_digit c ≡ false
unfolding is_name_byte is_digit
digit_is_name c h = by_tests (is_name_start c) (is_digit c) h
  where
    by_tests : (a b : Bool) → (a || b) ≡ false → b ≡ false
    by_tests true b e = cc
    by_tests false b e = e

digits_stop : (rest : List ℕ) → IsTokenEnd rest → prefix_len is_digit rest ≡ 0
digits_stop [] h = refl
digits_stop (c ∷ cs) h = rw (digit_is_name c h) refl

other : (p : ℕ → Bool) (c k : ℕ) → p c ≡ true → p k ≡ false → (c == k) ≡ false
other p c k holds fails =
    elim (eqb_tells c k) [
      | inl w ↦ absurd (true≢false (sym holds ∙ ap p w.1 ∙ fails))
      | inr w ↦ w.0
    ]

-- a word is read whole
pub front_of-word : (c : ℕ) (cs rest : List ℕ) → is_name_start c ≡ true → list_all is_name_byte (c ∷ cs) ≡ true → IsTokenEnd rest → first_token_of ((c ∷ cs) ++ rest) ≡ front.Token Word (length (c ∷ cs))
unfolding first_token_by_byte is_name_start
front_of-word c cs rest first names stop =
    let o = λ (k : ℕ) (no : is_name_start k ≡ false). other is_name_start c k first no in
    rw (o 35 refl, o 32 refl, o 9 refl, o 44 refl, o 58 refl, o 91 refl, o 93 refl, o 43 refl, o 45 refl, first)
    (ap (λ n. front.Token Word n) (prefix_len-front is_name_byte (c ∷ cs) rest names (name_stops rest stop)))

digit_no_name : (c : ℕ) → is_digit c ≡ true → is_name_start c ≡ false
unfolding is_digit is_name_start
digit_no_name c e = grind (arith, nat_tests)

stop_no_x : (c : ℕ) → is_name_byte c ≡ false → (c == 120) ≡ false
unfolding is_name_byte is_name_start
stop_no_x c e =
    elim (eqb_tells c 120) [
      | inl w ↦ absurd (true≢false (sym (ap (λ k. is_name_byte k) w.1) ∙ e))
      | inr w ↦ w.0
    ]

no_hex-front : (ds rest : List ℕ) → list_all is_digit ds ≡ true → 0 < length ds → IsTokenEnd rest → has_hex_prefix (ds ++ rest) ≡ false
unfolding has_hex_prefix
no_hex-front [] rest e some stop = absurd (omega arith)
no_hex-front (a ∷ []) [] e some stop = refl
no_hex-front (a ∷ []) (y ∷ ys) e some stop = rw (stop_no_x y stop) (dead (nat_lt 2 (length (a ∷ y ∷ ys))) (a == 48) (is_hex_digit (slice_index (a ∷ y ∷ ys) 2)))
no_hex-front (a ∷ b ∷ cs) rest e some stop = let second : is_digit b ≡ true = (and_parts _ _ (and_parts _ _ e).1).0 in rw (not_x b second) (dead (nat_lt 2 (length (a ∷ b ∷ (cs ++ rest)))) (a == 48) (is_hex_digit (slice_index (a ∷ b ∷ (cs ++ rest)) 2)))

number_len-front : (ds rest : List ℕ) → list_all is_digit ds ≡ true → 0 < length ds → IsTokenEnd rest → number_len (ds ++ rest) ≡ length ds
unfolding number_len
number_len-front ds rest e some stop =
    ap (λ b. cond b (2 + prefix_len is_hex_digit (drop 2 (ds ++ rest))) (prefix_len is_digit (ds ++ rest))) (no_hex-front ds rest e some stop)
    ∙ prefix_len-front is_digit ds rest e (digits_stop rest stop)

-- a decimal number is read whole
pub front_of-digits : (c : ℕ) (cs rest : List ℕ) → list_all is_digit (c ∷ cs) ≡ true → IsTokenEnd rest → first_token_of ((c ∷ cs) ++ rest) ≡ front.Token Number (length (c ∷ cs))
unfolding first_token_by_byte is_digit
front_of-digits c cs rest digits stop =
    let first : is_digit c ≡ true = (and_parts _ _ digits).0 in
    let o = λ (k : ℕ) (no : is_digit k ≡ false). other is_digit c k first no in
    rw (o 35 refl, o 32 refl, o 9 refl, o 44 refl, o 58 refl, o 91 refl, o 93 refl, o 43 refl, o 45 refl, digit_no_name c first)
    (ap (λ b. cond b (front.Token Number (number_len ((c ∷ cs) ++ rest))) front.Bad) first ∙ ap (λ n. front.Token Number n) (number_len-front (c ∷ cs) rest digits (omega arith) stop))
