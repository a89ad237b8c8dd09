-- The tokens of one line: as it is cut, and what they are, apart from how it is cut.
use Rattle.std.specs.Prelude.{◌≡◌, ℕ, zero, suc, ◌+◌, ◌-◌, ◌<◌, ◌≤◌, ◌==◌, ◌&&◌, nat_lt, slice_index, Bool, if◌then◌else◌, List, ◌∷◌, ◌++◌, length, drop, Result, Ok, Err, true, false, take, ◌⊎◌, ◌||◌, []}
use Rattle.std.specs.List.{prefix_len}
use Rattle.arrayvec.specs.ArrayVec.{ArrayVec}
use Rattle.tc_lex.specs.declared.kinds.Token.{Token}
use Rattle.tc_lex.specs.declared.kinds.TokenKind.{TokenKind}
use Rattle.tc_lex.specs.declared.kinds.TokenKind.TheVariants.{Word, Number, Comma, Colon, Open, Close, Plus, Minus}
use Rattle.tc_lex.specs.declared.kinds.Front.{Front}
use Rattle.tc_lex.specs.declared.kinds.Front.TheVariants as front
use Rattle.tcd_base.specs.NameBytes.{is_name_byte, is_name_start}
use Rattle.tc_lex.specs.Bytes.{is_digit, is_hex_digit, is_blank}
use Rattle.tc_lex.specs.Texts.{is_token_text}

-- the text that is cut begins with `0x` and a hex digit, so that its first token is a hexadecimal
-- number
unfoldable pub has_hex_prefix : List ℕ → Bool
has_hex_prefix bs = nat_lt 2 (length bs) && slice_index bs 0 == 48 && slice_index bs 1 == 120 && is_hex_digit (slice_index bs 2)

-- the length that is cut off as a token from a text that begins with a digit, that of its number
unfoldable pub number_len : List ℕ → ℕ
number_len bs = if has_hex_prefix bs then 2 + prefix_len is_hex_digit (drop 2 bs) else prefix_len is_digit bs

-- what the rest of a line with this first byte begins with: a token with its length, a blank, the
-- end, or a bad byte (35 is `#`, 9 a tab; 44, 58, 91, 93, 43, 45 are `,` `:` `[` `]` `+` `-`)
unfoldable pub first_token_by_byte : ℕ → List ℕ → Front
first_token_by_byte c text =
    if c == 35 then front.End
    else (if c == 32 then front.Blank
    else (if c == 9 then front.Blank
    else (if c == 44 then front.Token Comma 1
    else (if c == 58 then front.Token Colon 1
    else (if c == 91 then front.Token Open 1
    else (if c == 93 then front.Token Close 1
    else (if c == 43 then front.Token Plus 1
    else (if c == 45 then front.Token Minus 1
    else (if is_name_start c then front.Token Word (prefix_len is_name_byte text)
    else (if is_digit c then front.Token Number (number_len text)
    else front.Bad))))))))))

-- what the rest of a line begins with: a token with its length, a blank, the end, or a bad byte
abbrev pub first_token_of : List ℕ → Front
first_token_of [] = front.End
first_token_of (c ∷ cs) = first_token_by_byte c (c ∷ cs)

-- the token that a text begins with has at least one byte, and ends within the text
abbrev pub IsTokenWithin : Front → ℕ → Type 0
IsTokenWithin front.End n = Unit {0}
IsTokenWithin front.Blank n = 0 < n
IsTokenWithin front.Bad n = 0 < n
IsTokenWithin (front.Token kind len) n = (0 < len) × (len ≤ n)

-- the token of this kind and length at a place of its line
abbrev pub token : TokenKind → ℕ → ℕ → Token
token kind at len = record { kind = kind; from = at; to = at + len }

-- these tokens, then those of the rest; a fault of the rest remains the answer
abbrev pub with_first_tokens : List Token → Result (List Token) ℕ → Result (List Token) ℕ
with_first_tokens ts (Ok us) = Ok (ts ++ us)
with_first_tokens ts (Err e) = Err e

-- What follows from the front at a place of a line: `next room at skip` is the answer for the rest
-- after its first byte.
abbrev pub tokens_after_front : Front → ℕ → ℕ → (ℕ → ℕ → ℕ → Result (List Token) ℕ) → Result (List Token) ℕ
tokens_after_front front.End room at next = Ok []
tokens_after_front front.Blank room at next = next room (at + 1) 0
tokens_after_front front.Bad room at next = Err at
tokens_after_front (front.Token kind len) room at next = if room == 0 then Err at else with_first_tokens (token kind at len ∷ []) (next (room - 1) (at + 1) (len - 1))

-- The tokens of the rest of a line, which begins at offset `at`, after its first `skip` bytes: at
-- most `room`, or the first bad place.
unfoldable pub tokens_after_skip : List ℕ → ℕ → ℕ → ℕ → Result (List Token) ℕ
tokens_after_skip [] room at skip = Ok []
tokens_after_skip (c ∷ cs) room at zero = tokens_after_front (first_token_of (c ∷ cs)) room at (tokens_after_skip cs)
tokens_after_skip (c ∷ cs) room at (suc skip) = tokens_after_skip cs room (at + 1) skip

-- the tokens of a line, at most 64, or the place of the first byte that can't be taken
abbrev pub tokens_of : List ℕ → Result (List Token) ℕ
tokens_of line = tokens_after_skip line 64 0 0

-- the code's answer for a line is this: the tokens, or the place of a fault
abbrev pub GivesTokens : Result (ArrayVec Token) ℕ → Result (List Token) ℕ → Type 0
GivesTokens (Ok ts) r = r ≡ Ok ts.items
GivesTokens (Err e) r = r ≡ Err e

-- the code's answer, with the tokens in a list of the caller, is this: the tokens, or the place of
-- a fault
abbrev pub GivesTokensInto : {U : Type 0} → Result U ℕ → List Token → Result (List Token) ℕ → Type 0
GivesTokensInto (Ok u) ts r = r ≡ Ok ts
GivesTokensInto (Err e) ts r = r ≡ Err e

-- ---- what the tokens of a line are, apart from how it is cut
-- where a line is cut: the first `len` bytes are a token, and no longer start of the text is a
-- token of any kind
pub record IsLongestToken (kind : TokenKind) (len : ℕ) (text : List ℕ) : Type 0 where
  pub within : len ≤ length text
  pub stands : is_token_text kind (take len text) ≡ true
  pub longest : (other : TokenKind) (n : ℕ) → len < n → n ≤ length text → is_token_text other (take n text) ≡ false

-- where a line can't be cut: no start of the text is a token
abbrev pub BeginsNoToken : List ℕ → Type 0
BeginsNoToken text = (kind : TokenKind) (n : ℕ) → n ≤ length text → is_token_text kind (take n text) ≡ false

-- the places of a line from low on and below high hold only blanks and tabs
pub record AreBlanks (line : List ℕ) (low high : ℕ) : Type 0 where
  pub ordered : low ≤ high
  pub within : high ≤ length line
  pub each : (q : ℕ) → low ≤ q → q < high → is_blank (slice_index line q) ≡ true

-- a token is a slice of the line after `low` and blanks, and the longest token there
pub record IsNextToken (line : List ℕ) (low : ℕ) (t : Token) : Type 0 where
  pub blanks : AreBlanks line low t.from
  pub some : t.from < t.to
  pub longest : IsLongestToken t.kind (t.to - t.from) (drop t.from line)

-- tokens one after another from low to stop, with only blanks and tabs between them
abbrev pub AreTokens : List ℕ → ℕ → ℕ → List Token → Type 0
AreTokens line low stop [] = AreBlanks line low stop
AreTokens line low stop (t ∷ ts) = IsNextToken line low t × AreTokens line t.to stop ts

-- at this place a line ends, or its comment begins
abbrev pub IsLineEnd : List ℕ → ℕ → Type 0
IsLineEnd line stop = (stop ≡ length line) ⊎ ((stop < length line) × (slice_index line stop ≡ 35))

-- these are all tokens of a line from low on, up to its end or its comment, and at most `most`
pub record AreAllTokens (line : List ℕ) (low most : ℕ) (ts : List Token) : Type 0 where
  pub stop : ℕ
  pub ends : IsLineEnd line stop
  pub tokens : AreTokens line low stop ts
  pub few : length ts ≤ most

-- the byte at this place of a line begins no token, and isn't skipped
pub record IsStrayByte (line : List ℕ) (at : ℕ) : Type 0 where
  pub within : at < length line
  pub shown : (is_blank (slice_index line at) || slice_index line at == 35) ≡ false
  pub none : BeginsNoToken (drop at line)

-- at this place of a line a token begins after `most` others, which are as many as a line may have
pub record IsTokenPastLimit (line : List ℕ) (at count most : ℕ) : Type 0 where
  pub full : count ≡ most
  pub kind : TokenKind
  pub len : ℕ
  pub some : 0 < len
  pub longest : IsLongestToken kind len (drop at line)

-- a line from low on is tokens up to this place, where a byte begins no token, or a token begins
-- after `most` others, all that a line may have
pub record IsTokenFault (line : List ℕ) (low most at : ℕ) : Type 0 where
  pub before : List Token
  pub tokens : AreTokens line low at before
  pub fault : IsStrayByte line at ⊎ IsTokenPastLimit line at (length before) most

-- the answer is the line's tokens, at most 64, or the place of the first byte that can't be taken
abbrev pub AreTokensOrFault : List ℕ → Result (ArrayVec Token) ℕ → Type 0
AreTokensOrFault line (Ok ts) = AreAllTokens line 0 64 ts.items
AreTokensOrFault line (Err at) = IsTokenFault line 0 64 at
