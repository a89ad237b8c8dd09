-- The tokens of a text with their texts, without places: `listing_tokens text room skip`.
use Rattle.std.specs.Prelude.{◌≡◌, ℕ, zero, suc, ◌-◌, ◌==◌, false, if◌then◌else◌, List, ◌∷◌, take, Option, Some, None, option_map, []}
use Rattle.tc_lex.specs.declared.kinds.Front.{Front}
use Rattle.tc_lex.specs.declared.kinds.Front.TheVariants as front
use Rattle.tc_lex.specs.Cut.{first_token_of}
use Rattle.tc_lex.specs.Pieces.{PieceData, line_text_between as text_between}
use Rattle.tc_disasm.specs.Tokens.{printed_token}
use Rattle.tcd_base.specs.NameBytes.{is_name_byte}

-- the tokens that follow from the front of a text: `next room skip` is the answer for the rest
-- after its first byte
abbrev pub listing_tokens_after : Front → List ℕ → ℕ → (ℕ → ℕ → Option (List PieceData)) → Option (List PieceData)
listing_tokens_after front.End text room next = Some []
listing_tokens_after front.Blank text room next = next room 0
listing_tokens_after front.Bad text room next = None
listing_tokens_after (front.Token kind len) text room next = if room == 0 then None else option_map (λ ps. printed_token kind (take len text) ∷ ps) (next (room - 1) (len - 1))

-- the tokens of a listing's text after its first `skip` bytes, at most `room`; None if there are
-- more, or the text is malformed
unfoldable pub listing_tokens : List ℕ → ℕ → ℕ → Option (List PieceData)
listing_tokens [] room skip = Some []
listing_tokens (c ∷ cs) room zero = listing_tokens_after (first_token_of (c ∷ cs)) (c ∷ cs) room (listing_tokens cs)
listing_tokens (c ∷ cs) room (suc skip) = listing_tokens cs room skip

-- a word or number of a listing can end before this rest: no byte is left, or the next is one that
-- no name has
abbrev pub IsTokenEnd : List ℕ → Type 0
IsTokenEnd [] = Unit {0}
IsTokenEnd (c ∷ cs) = is_name_byte c ≡ false

-- the text of a token in a line of a listing, from one place to another, as the line is lexed
abbrev pub lexed_text_between : List ℕ → ℕ → ℕ → List ℕ
lexed_text_between line from to = text_between line from to
