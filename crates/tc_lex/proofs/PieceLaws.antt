-- A line, cut into tokens with their texts.
use Rattle.std.proofs.Common.{◌≡◌, ◌<◌, ◌≤◌, ◌+◌, ℕ, List, [], ◌∷◌, ◌++◌, length, drop, map, Result, Ok, Err, refl, ap, sym, ◌∙◌, append_assoc, append-nil}
use Rattle.tc_lex.specs.declared.kinds.Token.{Token}
use Rattle.tc_lex.specs.declared.kinds.TokenKind.{TokenKind}
use Rattle.tc_lex.specs.declared.kinds.Front.TheVariants as front
use Rattle.tc_lex.specs.Cut.{tokens_after_skip, first_token_of, with_first_tokens, token}
use Rattle.tc_lex.specs.Pieces.{PieceData, piece_of_token, pieces_of_tokens}
use Rattle.tc_lex.proofs.CutLaws.{cut_done, cut_end, cut_bad, cut_blank, cut_full, cut_token}

-- these tokens, then those of the rest; a fault of the rest remains the answer
abbrev pub with_pieces : List PieceData → Result (List PieceData) ℕ → Result (List PieceData) ℕ
with_pieces ps (Ok qs) = Ok (ps ++ qs)
with_pieces ps (Err at) = Err at

alone : (r : Result (List Token) ℕ) → with_first_tokens [] r ≡ r
alone (Ok ts) = refl
alone (Err at) = refl

one_more : (line : List ℕ) (t : Token) (r : Result (List Token) ℕ) (ps : List PieceData)
    → with_pieces ps (pieces_of_tokens line (with_first_tokens (t ∷ []) r)) ≡ with_pieces (ps ++ piece_of_token line t ∷ []) (pieces_of_tokens line r)
one_more line t (Ok ts) ps = ap (λ x. Ok x) (sym (append_assoc ps (piece_of_token line t ∷ []) (map (piece_of_token line) ts)))
one_more line t (Err at) ps = refl

module _ (line : List ℕ) (ps : List PieceData) (at : ℕ) where
  abbrev pub rest_of : ℕ → Result (List PieceData) ℕ
  rest_of room = with_pieces ps (pieces_of_tokens line (tokens_after_skip (drop at line) room at 0))

  told : (room : ℕ) (r : Result (List Token) ℕ) → with_first_tokens [] (tokens_after_skip (drop at line) room at 0) ≡ r → rest_of room ≡ with_pieces ps (pieces_of_tokens line r)
  told room r e = ap (λ x. with_pieces ps (pieces_of_tokens line x)) (sym (alone (tokens_after_skip (drop at line) room at 0)) ∙ e)

  none_left : with_pieces ps (Ok []) ≡ Ok ps
  none_left = ap (λ x. Ok x) (append-nil ps)

  pub pieces_done : (room : ℕ) → length line ≤ at → rest_of room ≡ Ok ps
  pieces_done room h = told room (Ok []) (cut_done line [] at room h) ∙ none_left

  pub pieces_end : (room : ℕ) → at < length line → first_token_of (drop at line) ≡ front.End → rest_of room ≡ Ok ps
  pieces_end room h e = told room (Ok []) (cut_end line [] at room h e) ∙ none_left

  pub pieces_bad : (room : ℕ) → at < length line → first_token_of (drop at line) ≡ front.Bad → rest_of room ≡ Err at
  pieces_bad room h e = told room (Err at) (cut_bad line [] at room h e)

  pub pieces_blank : (room : ℕ) → at < length line → first_token_of (drop at line) ≡ front.Blank → rest_of room ≡ with_pieces ps (pieces_of_tokens line (tokens_after_skip (drop (at + 1) line) room (at + 1) 0))
  pieces_blank room h e = told room _ (cut_blank line [] at room h e) ∙ ap (λ x. with_pieces ps (pieces_of_tokens line x)) (alone (tokens_after_skip (drop (at + 1) line) room (at + 1) 0))

  pub pieces_full : (kind : TokenKind) (len : ℕ) → at < length line → first_token_of (drop at line) ≡ front.Token kind len → rest_of 0 ≡ Err at
  pieces_full kind len h e = told 0 (Err at) (cut_full line [] at kind len h e)

  pub pieces_token : (kind : TokenKind) (len room : ℕ) → at < length line → first_token_of (drop at line) ≡ front.Token kind len → 0 < len
      → rest_of (room + 1) ≡ with_pieces (ps ++ piece_of_token line (token kind at len) ∷ []) (pieces_of_tokens line (tokens_after_skip (drop (at + len) line) room (at + len) 0))
  pieces_token kind len room h e some =
      told (room + 1) _ (cut_token line [] at kind len room h e some)
      ∙ one_more line (token kind at len) (tokens_after_skip (drop (at + len) line) room (at + len) 0) ps
