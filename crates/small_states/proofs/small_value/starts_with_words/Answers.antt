use Rattle.std.proofs.Common.{◌∙◌, ◌++◌, ℕ, List, ap, sym, refl, drop, arith}
use Rattle.std.proofs.lemmas.List.{take_all, take-append-drop}
use Rattle.small_states.proofs.small_value.starts_with_words.Goals as goal

pub loop-n-init : goal.loop-n-init
loop-n-init c = (omega (arith, c.if-own-words.false), λ t. refl)

pub returns : goal.returns
returns c = λ t.
    let own = c.args.own.now in
    let words = c.args.words.now in
    let n = c.loop-n.n in
    let rest = drop n own in
    (rest, sym (take-append-drop n own) ∙ ap (λ (l : List ℕ). l ++ rest) (c.loop-n.invariant.1 t ∙ take_all n words (omega (arith, c.loop-n-test.false))))
