-- A text is cut into these tokens, at every place of a line.
use Rattle.std.proofs.Common.{◌≡◌, ◌≤◌, ◌+◌, ◌-◌, ◌==◌, zero, suc, ℕ, Bool, true, cond, List, [], ◌∷◌, ◌++◌, length, take, map, Ok, Err, refl, ap, sym, ◌∙◌, arith, append_assoc, length-append}
use Rattle.std.specs.Prelude.{nat_le, not}
use Rattle.std.specs.List.{list_all}
use Rattle.std.proofs.Math.Dec.{eqb-suc-zero}
use Rattle.std.proofs.lemmas.Bool.Decides.{nat_tests}
use Rattle.std.proofs.lemmas.List.{take_at, drop_at}
use Rattle.std.proofs.lemmas.List.Folds.{list_all-append}
use Rattle.tc_lex.specs.declared.kinds.Token.{Token}
use Rattle.tc_lex.specs.declared.kinds.TokenKind.{TokenKind}
use Rattle.tc_lex.specs.declared.kinds.Front.TheVariants as front
use Rattle.tc_lex.specs.Cut.{tokens_after_skip, first_token_of, first_token_by_byte, tokens_after_front, with_first_tokens, token}
use Rattle.tc_lex.proofs.CutLaws.{cut-skip}
use Rattle.tc_lex.specs.Pieces.{PieceData}
use Rattle.tc_stmt.specs.Lines.{LineData, line_of_text, meaning_of_cut_line, tokens_line, line_token_with_text}
use Rattle.tc_disasm.specs.Lexed.{lexed_text_between}
use Rattle.tc_disasm.specs.Tokens.{printed_token}

-- the tokens of a text after `pre` in its line, at most `room`
pub record Cut (pre text : List ℕ) (room : ℕ) (ps : List PieceData) : Type 0 where
  pub ts : List Token
  pub is : tokens_after_skip text room (length pre) 0 ≡ Ok ts
  pub pieces : map (line_token_with_text (pre ++ text)) ts ≡ ps

-- no line feed
abbrev pub is_plain : ℕ → Bool
is_plain c = not (c == 10)

-- the text has these tokens, and no line feed
pub record Lexes (text : List ℕ) (ps : List PieceData) : Type 0 where
  pub tokens : (pre : List ℕ) (room : ℕ) → length ps ≤ room → Cut pre text room ps
  pub plain : list_all is_plain text ≡ true

pub lexes-end : Lexes [] []
unfolding tokens_after_skip
lexes-end = record { tokens = λ pre room few. record { ts = []; is = refl; pieces = refl }; plain = refl }

pub lexes-comment : (cs : List ℕ) → list_all is_plain cs ≡ true → Lexes (35 ∷ cs) []
unfolding tokens_after_skip first_token_by_byte
lexes-comment cs plain = record { tokens = λ pre room few. record { ts = []; is = refl; pieces = refl }; plain = plain }

-- a byte more before a text
behind : (pre : List ℕ) (c : ℕ) (rest : List ℕ) → (pre ++ c ∷ []) ++ rest ≡ pre ++ c ∷ rest
behind pre c rest = append_assoc pre (c ∷ []) rest

pub lexes-blank : (rest : List ℕ) (ps : List PieceData) → Lexes rest ps → Lexes (32 ∷ rest) ps
unfolding tokens_after_skip first_token_by_byte
lexes-blank rest ps h = record { tokens = after; plain = h.plain }
  where
    after : (pre : List ℕ) (room : ℕ) → length ps ≤ room → Cut pre (32 ∷ rest) room ps
    after pre room few =
        let next = h.tokens (pre ++ 32 ∷ []) room few in
        let at : length pre + 1 ≡ length (pre ++ 32 ∷ []) = omega (arith, length-append pre (32 ∷ [])) in
        record {
          ts = next.ts;
          is = ap (λ n. tokens_after_skip rest room n 0) at ∙ next.is;
          pieces = ap (λ l. map (line_token_with_text l) next.ts) (sym (behind pre 32 rest)) ∙ next.pieces;
        }

-- the text of a token
text_here : (pre w rest : List ℕ) → lexed_text_between (pre ++ (w ++ rest)) (length pre) (length pre + length w) ≡ w
text_here pre w rest =
    let low : nat_le (length pre) (length pre + length w) ≡ true = grind (arith, nat_tests) in
    let high : nat_le (length pre + length w) (length (pre ++ (w ++ rest))) ≡ true = rw (length-append pre (w ++ rest), length-append w rest) (grind (arith, nat_tests)) in
    rw (low, high) (ap (λ t. take ((length pre + length w) - length pre) t) (drop_at pre (w ++ rest) (length pre) refl) ∙ take_at w rest ((length pre + length w) - length pre) (omega arith))

-- a token at the front, and then the rest
pub lexes-token : (kind : TokenKind) (c : ℕ) (cs rest : List ℕ) (ps : List PieceData) → first_token_of ((c ∷ cs) ++ rest) ≡ front.Token kind (length (c ∷ cs)) → list_all is_plain (c ∷ cs) ≡ true → Lexes rest ps → Lexes ((c ∷ cs) ++ rest) (printed_token kind (c ∷ cs) ∷ ps)
unfolding tokens_after_skip
lexes-token kind c cs rest ps e plain h = record { tokens = by_room; plain = list_all-append is_plain (c ∷ cs) rest ∙ rw (plain, h.plain) refl }
  where
    by_room : (pre : List ℕ) (room : ℕ) → length (printed_token kind (c ∷ cs) ∷ ps) ≤ room → Cut pre ((c ∷ cs) ++ rest) room (printed_token kind (c ∷ cs) ∷ ps)
    by_room pre zero few = absurd (omega arith)
    by_room pre (suc room) few =
        let next = h.tokens (pre ++ (c ∷ cs)) room (omega arith) in
        let first : Token = token kind (length pre) (length (c ∷ cs)) in
        let at : length pre + 1 + length cs ≡ length (pre ++ (c ∷ cs)) = omega (arith, length-append pre (c ∷ cs)) in
        let one : length (c ∷ cs) - 1 ≡ length cs = omega arith in
        let less : suc room - 1 ≡ room = omega arith in
        record {
          ts = first ∷ next.ts;
          is = ap (λ f. tokens_after_front f (suc room) (length pre) (tokens_after_skip (cs ++ rest))) e
              ∙ ap (λ b. cond b (Err (length pre)) (with_first_tokens (first ∷ []) (tokens_after_skip (cs ++ rest) (suc room - 1) (length pre + 1) (length (c ∷ cs) - 1)))) (eqb-suc-zero room)
              ∙ ap (λ r. with_first_tokens (first ∷ []) (tokens_after_skip (cs ++ rest) r (length pre + 1) (length (c ∷ cs) - 1))) less
              ∙ ap (λ n. with_first_tokens (first ∷ []) (tokens_after_skip (cs ++ rest) room (length pre + 1) n)) one
              ∙ ap (with_first_tokens (first ∷ [])) (cut-skip (cs ++ rest) room (length pre + 1) (length cs)
              ∙ ap (λ t. tokens_after_skip t room (length pre + 1 + length cs) 0) (drop_at cs rest (length cs) refl)
              ∙ ap (λ n. tokens_after_skip rest room n 0) at
              ∙ next.is);
          pieces = ap (λ t. printed_token kind t ∷ map (line_token_with_text (pre ++ ((c ∷ cs) ++ rest))) next.ts) (text_here pre (c ∷ cs) rest)
              ∙ ap (λ l. printed_token kind (c ∷ cs) ∷ map (line_token_with_text l) next.ts) (sym (append_assoc pre (c ∷ cs) rest))
              ∙ ap (λ qs. printed_token kind (c ∷ cs) ∷ qs) next.pieces;
        }

-- a text is read as this line, and has no line feed
pub record Reads (text : List ℕ) (l : LineData) : Type 0 where
  pub is : line_of_text text ≡ l
  pub plain : list_all is_plain text ≡ true

-- the meaning of a line with at most 64 tokens depends only on the tokens
pub reads-tokens : (text : List ℕ) (ps : List PieceData) (l : LineData) → Lexes text ps → length ps ≤ 64 → tokens_line ps ≡ l → Reads text l
reads-tokens text ps l h few e =
    let whole = h.tokens [] 64 few in
    record { is = ap (meaning_of_cut_line text) whole.is ∙ ap tokens_line whole.pieces ∙ e; plain = h.plain }
