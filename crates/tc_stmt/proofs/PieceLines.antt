-- A line by its tokens with their texts.
use Rattle.std.proofs.Common.{◌≡◌, ◌∷◌, ℕ, List, [], map, take, length, Result, Ok, Err, refl, ap, arith}
use Rattle.tc_lex.specs.declared.kinds.Token.{Token}
use Rattle.tc_lex.specs.Cut.{tokens_of, tokens_after_skip}
use Rattle.tc_lex.specs.Pieces.{PieceData, pieces_of_tokens, piece_of_token, is_token_kind}
use Rattle.tc_stmt.specs.SourceRules.{bad_token}
use Rattle.tc_stmt.specs.Lines.{line_data, line_of_text, line_from, tokens_line, label_of, label_of_text, meaning_of_cut_line}

pub label_pieces : (text : List ℕ) (r : Result (List Token) ℕ) (ps : List PieceData) → pieces_of_tokens text r ≡ Ok ps → label_of_text text r ≡ label_of ps
label_pieces text (Ok ts) ps e = let same : map (piece_of_token text) ts ≡ ps = cc in ap label_of same
label_pieces text (Err at) ps e = cc

pub label_unread : (text : List ℕ) (r : Result (List Token) ℕ) (at : ℕ) → pieces_of_tokens text r ≡ Err at → label_of_text text r ≡ []
label_unread text (Ok ts) at e = cc
label_unread text (Err b) at e = cc

pub line_pieces : (line : List ℕ) (r : Result (List Token) ℕ) (ps : List PieceData) → pieces_of_tokens line r ≡ Ok ps → meaning_of_cut_line line r ≡ tokens_line ps
line_pieces line (Ok ts) ps e = let same : map (piece_of_token line) ts ≡ ps = cc in ap tokens_line same
line_pieces line (Err at) ps e = cc

pub unread : (line : List ℕ) (r : Result (List Token) ℕ) (at : ℕ) → pieces_of_tokens line r ≡ Err at → r ≡ Err at
unread line (Ok ts) at e = cc
unread line (Err b) at e = let b_is : b ≡ at = cc in ap (λ x. Err x) b_is

pub line_unread : (line : List ℕ) (r : Result (List Token) ℕ) (at : ℕ) → pieces_of_tokens line r ≡ Err at → meaning_of_cut_line line r ≡ line_data bad_token (label_of_text (take at line) (tokens_of (take at line)))
line_unread line r at e = ap (meaning_of_cut_line line) (unread line r at e)

-- an empty line breaks no rule and adds nothing
pub empty_line : (line : List ℕ) → length line ≡ 0 → line_of_text line ≡ line_data 15 []
unfolding tokens_after_skip is_token_kind tokens_line line_from
empty_line [] h = refl
empty_line (c ∷ cs) h = absurd (omega arith)
