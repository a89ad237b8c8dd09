-- Cutting a text into tokens, step by step.
use Rattle.std.proofs.Common.{◌≡◌, ◌<◌, ◌≤◌, ◌+◌, ◌-◌, zero, suc, ℕ, List, [], ◌∷◌, ◌++◌, length, drop, Result, Ok, Err, refl, ap, sym, ◌∙◌, arith, append_assoc, append-nil, add-zero, length-drop}
use Rattle.std.proofs.Math.Dec.{eqb-suc-zero}
use Rattle.std.proofs.lemmas.List.{drop_all, drop-drop}
use Rattle.tc_lex.specs.declared.kinds.Token.{Token}
use Rattle.tc_lex.specs.declared.kinds.TokenKind.{TokenKind}
use Rattle.tc_lex.specs.declared.kinds.Front.TheVariants as front
use Rattle.tc_lex.specs.Cut.{tokens_after_skip, first_token_of, tokens_after_front, with_first_tokens, token}

-- bytes that are skipped
pub cut-skip : (text : List ℕ) (room at n : ℕ) → tokens_after_skip text room at n ≡ tokens_after_skip (drop n text) room (at + n) 0
unfolding tokens_after_skip
cut-skip [] room at zero = refl
cut-skip [] room at (suc n) = refl
cut-skip (c ∷ cs) room at zero = rw add-zero refl
cut-skip (c ∷ cs) room at (suc n) = cut-skip cs room (at + 1) n ∙ ap (λ p. tokens_after_skip (drop n cs) room p 0) (omega arith)

-- the first step follows from the front
pub cut-some : (text : List ℕ) (room at : ℕ) → 0 < length text → tokens_after_skip text room at 0 ≡ tokens_after_front (first_token_of text) room at (tokens_after_skip (drop 1 text))
unfolding tokens_after_skip
cut-some [] room at h = absurd (omega arith)
cut-some (c ∷ cs) room at h = refl

pub with_front-append : (ts us : List Token) (r : Result (List Token) ℕ) → with_first_tokens ts (with_first_tokens us r) ≡ with_first_tokens (ts ++ us) r
with_front-append ts us (Ok vs) = ap (λ x. Ok x) (sym (append_assoc ts us vs))
with_front-append ts us (Err e) = refl

module _ (line : List ℕ) (ts : List Token) (at : ℕ) where
  abbrev pub rest_of : ℕ → Result (List Token) ℕ
  rest_of room = with_first_tokens ts (tokens_after_skip (drop at line) room at 0)

  here : (room : ℕ) → at < length line → rest_of room ≡ with_first_tokens ts (tokens_after_front (first_token_of (drop at line)) room at (tokens_after_skip (drop (at + 1) line)))
  here room h =
      let some : 0 < length (drop at line) = omega (arith, length-drop at line) in
      ap (with_first_tokens ts) (cut-some (drop at line) room at some ∙ ap (λ (s : List ℕ). tokens_after_front (first_token_of (drop at line)) room at (tokens_after_skip s)) (drop-drop 1 at line))

  pub cut_done : (room : ℕ) → length line ≤ at → rest_of room ≡ Ok ts
  unfolding tokens_after_skip
  cut_done room h = ap (λ s. with_first_tokens ts (tokens_after_skip s room at 0)) (drop_all at line h) ∙ ap (λ us. Ok us) (append-nil ts)

  pub cut_end : (room : ℕ) → at < length line → first_token_of (drop at line) ≡ front.End → rest_of room ≡ Ok ts
  cut_end room h e = here room h ∙ ap (λ f. with_first_tokens ts (tokens_after_front f room at (tokens_after_skip (drop (at + 1) line)))) e ∙ ap (λ us. Ok us) (append-nil ts)

  pub cut_bad : (room : ℕ) → at < length line → first_token_of (drop at line) ≡ front.Bad → rest_of room ≡ Err at
  cut_bad room h e = here room h ∙ ap (λ f. with_first_tokens ts (tokens_after_front f room at (tokens_after_skip (drop (at + 1) line)))) e

  pub cut_blank : (room : ℕ) → at < length line → first_token_of (drop at line) ≡ front.Blank → rest_of room ≡ with_first_tokens ts (tokens_after_skip (drop (at + 1) line) room (at + 1) 0)
  cut_blank room h e = here room h ∙ ap (λ f. with_first_tokens ts (tokens_after_front f room at (tokens_after_skip (drop (at + 1) line)))) e

  pub cut_full : (kind : TokenKind) (len : ℕ) → at < length line → first_token_of (drop at line) ≡ front.Token kind len → rest_of 0 ≡ Err at
  cut_full kind len h e = here 0 h ∙ ap (λ f. with_first_tokens ts (tokens_after_front f 0 at (tokens_after_skip (drop (at + 1) line)))) e

  pub cut_token : (kind : TokenKind) (len room : ℕ) → at < length line → first_token_of (drop at line) ≡ front.Token kind len → 0 < len
      → rest_of (room + 1) ≡ with_first_tokens (ts ++ token kind at len ∷ []) (tokens_after_skip (drop (at + len) line) room (at + len) 0)
  cut_token kind len room h e some =
      let rest_is : tokens_after_skip (drop (at + 1) line) room (at + 1) (len - 1) ≡ tokens_after_skip (drop (at + len) line) room (at + len) 0 =
      cut-skip (drop (at + 1) line) room (at + 1) (len - 1) ∙ ap (λ s. tokens_after_skip s room (at + 1 + (len - 1)) 0) (drop-drop (len - 1) (at + 1) line) ∙ ap (λ p. tokens_after_skip (drop p line) room p 0) (omega arith) in
      here (room + 1) h
      ∙ ap (λ f. with_first_tokens ts (tokens_after_front f (room + 1) at (tokens_after_skip (drop (at + 1) line)))) e
      ∙ chosen (room + 1) (omega arith)
      ∙ ap (λ r. with_first_tokens ts (with_first_tokens (token kind at len ∷ []) (tokens_after_skip (drop (at + 1) line) r (at + 1) (len - 1)))) (omega arith)
      ∙ ap (λ r. with_first_tokens ts (with_first_tokens (token kind at len ∷ []) r)) rest_is
      ∙ with_front-append ts (token kind at len ∷ []) (tokens_after_skip (drop (at + len) line) room (at + len) 0)
    where
      chosen : (n : ℕ) → 0 < n → with_first_tokens ts (tokens_after_front (front.Token kind len) n at (tokens_after_skip (drop (at + 1) line))) ≡ with_first_tokens ts (with_first_tokens (token kind at len ∷ []) (tokens_after_skip (drop (at + 1) line) (n - 1) (at + 1) (len - 1)))
      chosen zero some = absurd (omega arith)
      chosen (suc n) some = rw (eqb-suc-zero n) refl
