-- Tokens with their texts.
use Rattle.std.specs.Prelude.{◌≡◌, ℕ, ◌==◌, ◌&&◌, nat_le, if◌then◌else◌, Bool, false, List, length, map, slice_get, slice_range, Result, Ok, Err, []}
use Rattle.std.specs.Option.{option_map_or}
use Rattle.tc_lex.specs.declared.kinds.TokenKind.{TokenKind}
use Rattle.tc_lex.specs.declared.kinds.Token.{Token}
use Rattle.tc_lex.specs.declared.pieces.Piece.{Piece}
use Rattle.tc_lex.specs.declared.kinds.TokenKind.TheVariants.{Word, Number, Comma, Colon, Open, Close, Plus, Minus}

-- a token with its text, as plain data
pub record PieceData : Type 0 where
  pub kind : TokenKind
  pub text : List ℕ

-- the plain data of a token
abbrev pub piece_of : Piece → PieceData
piece_of p = record { kind = p.kind; text = p.text.now }

-- a number for the kind of a token, so that the kinds of pieces, tokens with their texts, can be
-- compared
unfoldable pub kind_index : TokenKind → ℕ
kind_index Word = 0
kind_index Number = 1
kind_index Comma = 2
kind_index Colon = 3
kind_index Open = 4
kind_index Close = 5
kind_index Plus = 6
kind_index Minus = 7

-- the token at this place exists and has this kind
unfoldable pub is_token_kind : List PieceData → ℕ → TokenKind → Bool
is_token_kind ps i kind = option_map_or (λ p. kind_index p.kind == kind_index kind) (slice_get ps i) false

-- the text of the token at this place, and an empty text if there is none
unfoldable pub token_text : List PieceData → ℕ → List ℕ
token_text ps i = option_map_or (λ p. p.text) (slice_get ps i) []

-- the bytes of a line from one place to another; none if these aren't places of the line in order
abbrev pub line_text_between : List ℕ → ℕ → ℕ → List ℕ
line_text_between line from to = if nat_le from to && nat_le to (length line) then slice_range line from to else []

-- a token of a line with its text, as plain data
abbrev pub piece_of_token : List ℕ → Token → PieceData
piece_of_token line t = record { kind = t.kind; text = line_text_between line t.from t.to }

-- the tokens of a line with their texts, or the place of the fault
abbrev pub pieces_of_tokens : List ℕ → Result (List Token) ℕ → Result (List PieceData) ℕ
pieces_of_tokens line (Ok ts) = Ok (map (piece_of_token line) ts)
pieces_of_tokens line (Err at) = Err at

-- the code's answer is this: the tokens with their texts, or the place of a fault
abbrev pub GivesTokenTexts : {U : Type 0} → Result U ℕ → List PieceData → Result (List PieceData) ℕ → Type 0
GivesTokenTexts (Ok u) ps r = r ≡ Ok ps
GivesTokenTexts (Err at) ps r = r ≡ Err at
