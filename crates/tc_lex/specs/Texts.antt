-- What a token is, apart from how a line is cut.
use Rattle.std.specs.Prelude.{◌==◌, ◌&&◌, ◌||◌, ℕ, Bool, false, List, ◌∷◌, codes, []}
use Rattle.std.specs.List.{list_all}
use Rattle.std.specs.Str.{bytes_eq}
use Rattle.tc_lex.specs.declared.kinds.TokenKind.{TokenKind}
use Rattle.tc_lex.specs.declared.kinds.TokenKind.TheVariants.{Word, Number, Comma, Colon, Open, Close, Plus, Minus}
use Rattle.tcd_base.specs.NameBytes.{is_name_byte, is_name_start}
use Rattle.tc_lex.specs.Bytes.{is_digit, is_hex_digit}

-- the texts that are tokens of words or decimal numbers in a line: a first byte that passes one
-- test, and bytes that all pass another
abbrev pub is_run : (ℕ → Bool) → (ℕ → Bool) → List ℕ → Bool
is_run first each [] = false
is_run first each (c ∷ cs) = first c && list_all each (c ∷ cs)

-- the texts that are tokens of hexadecimal numbers in a line: `0x` and at least one hex digit
abbrev pub is_hex_text : List ℕ → Bool
is_hex_text (z ∷ x ∷ c ∷ cs) = z == 48 && (x == 120 && list_all is_hex_digit (c ∷ cs))
is_hex_text bs = false

-- the text is that of one token of this kind, apart from how a line is cut
unfoldable pub is_token_text : TokenKind → List ℕ → Bool
is_token_text Word text = is_run is_name_start is_name_byte text
is_token_text Number text = is_run is_digit is_digit text || is_hex_text text
is_token_text Comma text = bytes_eq text (codes ",")
is_token_text Colon text = bytes_eq text (codes ":")
is_token_text Open text = bytes_eq text (codes "[")
is_token_text Close text = bytes_eq text (codes "]")
is_token_text Plus text = bytes_eq text (codes "+")
is_token_text Minus text = bytes_eq text (codes "-")
