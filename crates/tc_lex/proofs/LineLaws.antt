-- The answer for a line is its tokens, each the longest at its place, or the byte that can't be
-- taken.
use Rattle.std.proofs.Common.{◌≡◌, ◌+◌, ◌-◌, ◌<◌, ◌≤◌, ℕ, zero, suc, ◌⊎◌, inl, inr, Bool, true, false, ◌||◌, cond, List, [], ◌∷◌, length, drop, get_or, Result, Ok, Err, refl, sym, ap, subst, ◌∙◌, arith, length-drop, get_or-drop}
use Rattle.std.specs.Prelude.{◌==◌}
use Rattle.std.proofs.lemmas.List.{drop-drop}
use Rattle.std.proofs.lemmas.Bool.Decides.{Decides-eqb}
use Rattle.std.proofs.lemmas.Bool.{cases_lt}
use Rattle.std.proofs.Math.Dec.{eqb-suc-zero}
use Rattle.tc_lex.specs.declared.kinds.Token.{Token}
use Rattle.tc_lex.specs.declared.kinds.TokenKind.{TokenKind}
use Rattle.tc_lex.specs.declared.kinds.TokenKind.TheVariants.{Comma, Colon, Open, Close, Plus, Minus}
use Rattle.tc_lex.specs.declared.kinds.Front.{Front}
use Rattle.tc_lex.specs.declared.kinds.Front.TheVariants as front
use Rattle.tcd_base.specs.NameBytes.{is_name_start}
use Rattle.tc_lex.specs.Bytes.{is_digit, is_blank}
use Rattle.tc_lex.specs.Cut.{tokens_after_skip, first_token_by_byte, tokens_after_front, with_first_tokens, token, tokens_of, IsLongestToken, BeginsNoToken, AreBlanks, IsNextToken, AreTokens, AreAllTokens, IsStrayByte, IsTokenPastLimit, IsTokenFault}
use Rattle.tc_lex.proofs.TextLaws.{empty_none}
use Rattle.tc_lex.proofs.LongestLaws.{comma_longest, colon_longest, open_longest, close_longest, plus_longest, minus_longest, word_longest, number_longest, begins_none}

-- ---- the meaning of a front
data Says (c : ℕ) (cs : List ℕ) : Front → Type 0 where
  ended : c ≡ 35 → Says c cs front.End
  blank : is_blank c ≡ true → Says c cs front.Blank
  bad : (is_blank c || c == 35) ≡ false → BeginsNoToken (c ∷ cs) → Says c cs front.Bad
  told : {kind : TokenKind} {len : ℕ} → IsLongestToken kind len (c ∷ cs) → Says c cs (front.Token kind len)

says_if : (c : ℕ) (cs : List ℕ) (b : Bool) (x y : Front) → (b ≡ true → Says c cs x) → (b ≡ false → Says c cs y) → Says c cs (cond b x y)
says_if c cs true x y p q = p refl
says_if c cs false x y p q = q refl

-- a token has bytes
some_of : (kind : TokenKind) (len : ℕ) (text : List ℕ) → IsLongestToken kind len text → 0 < len
some_of kind zero text longest = let none = empty_none kind in let stands = longest.stands in cc
some_of kind (suc len) text longest = omega arith

-- a token of one byte
alone : (c k : ℕ) (cs : List ℕ) (kind : TokenKind) → IsLongestToken kind 1 (k ∷ cs) → (c == k) ≡ true → Says c cs (front.Token kind 1)
alone c k cs kind longest e = told (rw ((Decides-eqb c k).0 e) longest)

not_passed : (c : ℕ) → (c == 35) ≡ false → (c == 32) ≡ false → (c == 9) ≡ false → (is_blank c || c == 35) ≡ false
not_passed c h b t = rw (b, t, h) refl

front_says : (c : ℕ) (cs : List ℕ) → Says c cs (first_token_by_byte c (c ∷ cs))
unfolding first_token_by_byte
front_says c cs =
    says_if c cs (c == 35) _ _ (λ e. ended ((Decides-eqb c 35).0 e)) (λ hash.
    says_if c cs (c == 32) _ _ (λ e. blank (rw e refl)) (λ space.
    says_if c cs (c == 9) _ _ (λ e. blank (rw (space, e) refl)) (λ tab.
    says_if c cs (c == 44) _ _ (alone c 44 cs Comma (comma_longest cs)) (λ comma.
    says_if c cs (c == 58) _ _ (alone c 58 cs Colon (colon_longest cs)) (λ colon.
    says_if c cs (c == 91) _ _ (alone c 91 cs Open (open_longest cs)) (λ opened.
    says_if c cs (c == 93) _ _ (alone c 93 cs Close (close_longest cs)) (λ closed.
    says_if c cs (c == 43) _ _ (alone c 43 cs Plus (plus_longest cs)) (λ plus.
    says_if c cs (c == 45) _ _ (alone c 45 cs Minus (minus_longest cs)) (λ minus.
    says_if c cs (is_name_start c) _ _ (λ e. told (word_longest c cs (record { comma = comma; colon = colon; opened = opened; closed = closed; plus = plus; minus = minus }) e)) (λ name.
    says_if c cs (is_digit c) _ _ (λ e. told (number_longest c cs (record { comma = comma; colon = colon; opened = opened; closed = closed; plus = plus; minus = minus }) name e)) (λ digit.
    bad (not_passed c hash space tab) (begins_none c cs (record { comma = comma; colon = colon; opened = opened; closed = closed; plus = plus; minus = minus }) name digit))))))))))))

-- ---- the rest of a line
module _ (line : List ℕ) where
  abbrev Meaning : ℕ → ℕ → Result (List Token) ℕ → Type 0
  Meaning low most (Ok ts) = AreAllTokens line low most ts
  Meaning low most (Err at) = IsTokenFault line low most at

  -- no blanks from a place on
  none_from : (at : ℕ) → at ≤ length line → AreBlanks line at at
  none_from at h = record { ordered = omega arith; within = h; each = λ q low high. absurd (omega arith) }

  blanks_earlier : (at high : ℕ) → is_blank (get_or line at 0) ≡ true → AreBlanks line (at + 1) high → AreBlanks line at high
  blanks_earlier at high b more = record { ordered = omega arith; within = more.within; each = λ q low below. by q low below (cases_lt at q) }
    where
      by : (q : ℕ) → at ≤ q → q < high → (at < q) ⊎ (q ≤ at) → is_blank (get_or line q 0) ≡ true
      by q low below (inl l) = more.each q (omega arith) below
      by q low below (inr g) = let e : q ≡ at = omega arith in ap (λ i. is_blank (get_or line i 0)) e ∙ b

  tokens_earlier : (at stop : ℕ) (ts : List Token) → is_blank (get_or line at 0) ≡ true → AreTokens line (at + 1) stop ts → AreTokens line at stop ts
  tokens_earlier at stop [] b more = blanks_earlier at stop b more
  tokens_earlier at stop (t ∷ ts) b more = (record { blanks = blanks_earlier at t.from b more.0.blanks; some = more.0.some; longest = more.0.longest }, more.1)

  earlier : (at most : ℕ) (r : Result (List Token) ℕ) → is_blank (get_or line at 0) ≡ true → Meaning (at + 1) most r → Meaning at most r
  earlier at most (Ok ts) b more = record { stop = more.stop; ends = more.ends; tokens = tokens_earlier at more.stop ts b more.tokens; few = more.few }
  earlier at most (Err e) b more = record { before = more.before; tokens = tokens_earlier at e more.before b more.tokens; fault = more.fault }

  -- a token before what follows it
  in_front : (at most : ℕ) (t : Token) (r : Result (List Token) ℕ) → IsNextToken line at t → Meaning t.to most r → Meaning at (suc most) (with_first_tokens (t ∷ []) r)
  in_front at most t (Ok ts) next more = record { stop = more.stop; ends = more.ends; tokens = (next, more.tokens); few = omega (arith, more.few) }
  in_front at most t (Err e) next more = record { before = t ∷ more.before; tokens = (next, more.tokens); fault = by more.fault }
    where
      by : IsStrayByte line e ⊎ IsTokenPastLimit line e (length more.before) most → IsStrayByte line e ⊎ IsTokenPastLimit line e (length (t ∷ more.before)) (suc most)
      by (inl stray) = inl stray
      by (inr past) = inr (record { full = ap suc past.full; kind = past.kind; len = past.len; some = past.some; longest = past.longest })

  module _ (at c : ℕ) (cs : List ℕ) (text_is : drop at line ≡ c ∷ cs) where
    here : get_or line at 0 ≡ c
    here =
        let first : get_or (drop at line) 0 0 ≡ get_or line at 0 = get_or-drop at line 0 0 ∙ ap (λ i. get_or line i 0) (omega arith) in
        sym first ∙ ap (λ s. get_or s 0 0) text_is

    inside : at < length line
    inside = omega (arith, length-drop at line, ap length text_is)

    next_is : (kind : TokenKind) (len : ℕ) → IsLongestToken kind len (c ∷ cs) → IsNextToken line at (token kind at len)
    next_is kind len longest =
        let some : 0 < len = some_of kind len (c ∷ cs) longest in
        let bytes : at + len - at ≡ len = omega arith in
        record { blanks = none_from at (omega (arith, inside)); some = omega arith; longest = rw (bytes, text_is) longest }

    follow_means : (f : Front) (room : ℕ) (next : ℕ → ℕ → ℕ → Result (List Token) ℕ) → Says c cs f
        → ((r s : ℕ) → at + 1 + s ≤ length line → Meaning (at + 1 + s) r (next r (at + 1) s)) → Meaning at room (tokens_after_front f room at next)
    follow_means _ room next (ended h) rest = record { stop = at; ends = inr (inside, here ∙ h); tokens = none_from at (omega (arith, inside)); few = omega arith }
    follow_means _ room next (blank h) rest =
        let same : at + 1 + 0 ≡ at + 1 = omega arith in
        earlier at room (next room (at + 1) 0) (ap is_blank here ∙ h) (rw same at (rest room 0 (omega (arith, inside))))
    follow_means _ room next (bad shown none) rest =
        record { before = []; tokens = none_from at (omega (arith, inside)); fault = inl (record { within = inside; shown = ap (λ b. is_blank b || b == 35) here ∙ shown; none = rw text_is none }) }
    follow_means _ zero next (told {kind} {len} longest) rest =
        record { before = []; tokens = none_from at (omega (arith, inside)); fault = inr (record { full = refl; kind = kind; len = len; some = some_of kind len (c ∷ cs) longest; longest = rw text_is longest }) }
    follow_means _ (suc room) next (told {kind} {len} longest) rest =
        let some : 0 < len = some_of kind len (c ∷ cs) longest in
        let there : at + 1 + (len - 1) ≡ at + len = omega arith in
        let fits : at + 1 + (len - 1) ≤ length line = omega (arith, longest.within, length-drop at line, ap length text_is) in
        let less : suc room - 1 ≡ room = omega arith in
        rw (eqb-suc-zero room, less) (in_front at room (token kind at len) (next room (at + 1) (len - 1)) (next_is kind len longest) (rw there at (rest room (len - 1) fits)))

  -- the rest of the line after a place
  pub cut_means : (text : List ℕ) (room at skip : ℕ) → drop at line ≡ text → at + skip ≤ length line → Meaning (at + skip) room (tokens_after_skip text room at skip)
  unfolding tokens_after_skip
  cut_means [] room at skip e h =
      let ended_at : length line ≤ at + skip = omega (arith, length-drop at line, ap length e) in
      record { stop = at + skip; ends = inl (omega arith); tokens = none_from (at + skip) h; few = omega arith }
  cut_means (c ∷ cs) room at zero e h =
      let same : at + 0 ≡ at = omega arith in
      rw same (follow_means at c cs e (first_token_by_byte c (c ∷ cs)) room (tokens_after_skip cs) (front_says c cs) (λ r s fits. cut_means cs r (at + 1) s (sym (drop-drop 1 at line) ∙ ap (drop 1) e) fits))
  cut_means (c ∷ cs) room at (suc skip) e h =
      let same : at + suc skip ≡ at + 1 + skip = omega arith in
      rw same (cut_means cs room (at + 1) skip (sym (drop-drop 1 at line) ∙ ap (drop 1) e) (omega arith))

whole_means : (line : List ℕ) → Meaning line 0 64 (tokens_of line)
whole_means line =
    let same : 0 + 0 ≡ 0 = omega arith in
    rw same at (cut_means line line 64 0 0 refl (omega arith))

-- the meaning of an answer
pub cut_reads : (line : List ℕ) (ts : List Token) → tokens_of line ≡ Ok ts → AreAllTokens line 0 64 ts
cut_reads line ts e = subst (λ (r : Result (List Token) ℕ). Meaning line 0 64 r) e (whole_means line)

pub fault_reads : (line : List ℕ) (at : ℕ) → tokens_of line ≡ Err at → IsTokenFault line 0 64 at
fault_reads line at e = subst (λ (r : Result (List Token) ℕ). Meaning line 0 64 r) e (whole_means line)
