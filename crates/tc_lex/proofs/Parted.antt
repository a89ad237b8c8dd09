-- A list parted at its first comma.
use Rattle.std.proofs.Common.{◌≡◌, ◌<◌, ◌≤◌, ◌+◌, ◌++◌, ℕ, Bool, true, false, cond, List, [], ◌∷◌, length, map, take, drop, Some, None, refl, ap, sym, ◌∙◌, arith, append_assoc}
use Rattle.std.proofs.lemmas.Option.{cond_some}
use Rattle.std.specs.Prelude.{position, nat_lt}
use Rattle.std.specs.List.{slice_split, position_or_len}
use Rattle.std.proofs.lemmas.List.Splits.{slice_split_first, slice_split_none}
use Rattle.std.proofs.lemmas.List.{drop-map}
use Rattle.std.proofs.lemmas.List.Sums.{fails_before_first}
use Rattle.tc_lex.specs.declared.kinds.TokenKind.TheVariants.{Word}
use Rattle.tc_lex.specs.declared.pieces.Piece.{Piece}
use Rattle.tc_lex.specs.Pieces.{PieceData, piece_of}
use Rattle.tc_lex.specs.Operands.{OperandData, operand_of_tokens, operands_of_tokens, is_comma}
use Rattle.tc_lex.proofs.Mapped.{position-map}
use Rattle.std.proofs.lemmas.Bool.{ltb-true, ltb-false}

-- a test guards no answer, so it failed
pub none_from : (b : Bool) (n : ℕ) → cond b (Some n) None ≡ None → b ≡ false
none_from true n e = cc
none_from false n e = refl

split_at : (xs : List PieceData) (i : ℕ) → position is_comma xs ≡ Some i → slice_split is_comma xs ≡ take i xs ∷ slice_split is_comma (drop (i + 1) xs)
split_at xs i e =
    let w = cond_some (nat_lt (position_or_len is_comma xs) (length xs)) (position_or_len is_comma xs) i e in
    slice_split_first is_comma xs (record { kind = Word; text = [] }) (ltb-true _ _ w.0)
    ∙ ap (λ n. take n xs ∷ slice_split is_comma (drop (n + 1) xs)) w.1

split_whole : (xs : List PieceData) → position is_comma xs ≡ None → slice_split is_comma xs ≡ xs ∷ []
split_whole xs e =
    let past : length xs ≤ position_or_len is_comma xs = ltb-false _ _ (none_from (nat_lt (position_or_len is_comma xs) (length xs)) (position_or_len is_comma xs) e) in
    slice_split_none is_comma xs (λ k d h. fails_before_first is_comma xs k d (omega (arith, past)))

pub parted_more : (out : List OperandData) (ps : List Piece) (i : ℕ) → position (λ p. is_comma (piece_of p)) ps ≡ Some i
    → (out ++ operand_of_tokens (take i (map piece_of ps)) ∷ []) ++ map operand_of_tokens (slice_split is_comma (map piece_of (drop (i + 1) ps))) ≡ out ++ map operand_of_tokens (slice_split is_comma (map piece_of ps))
parted_more out ps i e =
    append_assoc out (operand_of_tokens (take i (map piece_of ps)) ∷ []) (map operand_of_tokens (slice_split is_comma (map piece_of (drop (i + 1) ps))))
    ∙ ap (λ xs. out ++ (operand_of_tokens (take i (map piece_of ps)) ∷ map operand_of_tokens (slice_split is_comma xs))) (sym (drop-map piece_of (i + 1) ps))
    ∙ ap (λ parts. out ++ map operand_of_tokens parts) (sym (split_at (map piece_of ps) i (sym (position-map is_comma piece_of ps) ∙ e)))

pub parted_end : (out : List OperandData) (ps : List Piece) → position (λ p. is_comma (piece_of p)) ps ≡ None
    → out ++ operand_of_tokens (map piece_of ps) ∷ [] ≡ out ++ map operand_of_tokens (slice_split is_comma (map piece_of ps))
parted_end out ps e = ap (λ parts. out ++ map operand_of_tokens parts) (sym (split_whole (map piece_of ps) (sym (position-map is_comma piece_of ps) ∙ e)))

pub operands-some : (ps : List Piece) → 0 < length ps → map operand_of_tokens (slice_split is_comma (map piece_of ps)) ≡ operands_of_tokens (map piece_of ps)
unfolding operands_of_tokens
operands-some [] h = absurd (omega arith)
operands-some (p ∷ ps) h = refl

pub operands-none : (ps : List Piece) → length ps ≡ 0 → [] ≡ operands_of_tokens (map piece_of ps)
unfolding operands_of_tokens
operands-none [] h = refl
operands-none (p ∷ ps) h = absurd (omega arith)
