use Rattle.std.proofs.Common.{◌≡◌, ℕ, List, [], ◌∷◌, ◌<◌, length, get_or, drop, sym, ap, refl, length-drop, get_or-drop, ◌∙◌, arith}
use Rattle.std.proofs.lemmas.List.{take_rest}
use Rattle.tc_lex.specs.Cut.{first_token_of, first_token_by_byte}
use Rattle.tc_lex.proofs.longest_token.longest_token_at.Goals as goal

first_of : (text : List ℕ) (d : ℕ) → 0 < length text → first_token_by_byte (get_or text 0 d) text ≡ first_token_of text
first_of [] d h = absurd (omega arith)
first_of (c ∷ cs) d h = refl

pub returns-clause-value : goal.returns-clause-value
returns-clause-value c =
    let line = c.args.line.now in
    let here : get_or line c.args.at 0 ≡ get_or (drop c.args.at line) 0 0 = sym (get_or-drop c.args.at line 0 0 ∙ ap (λ i. get_or line i 0) (omega arith)) in
    c.first_token_by_byte.ensures.value
    ∙ ap (first_token_by_byte (get_or line c.args.at 0)) (take_rest line c.args.at)
    ∙ ap (λ b. first_token_by_byte b (drop c.args.at line)) here
    ∙ first_of (drop c.args.at line) 0 (omega (arith, length-drop c.args.at line))
