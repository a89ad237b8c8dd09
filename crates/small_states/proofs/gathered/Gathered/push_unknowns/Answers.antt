use Rattle.std.proofs.Common.{◌∙◌, ◌++◌, ℕ, List, replicate, ap, sym, arith}
use Rattle.std.proofs.lemmas.List.{append_assoc}
use Rattle.small_states.proofs.ZeroLemmas.{zeros_taken}
use Rattle.small_states.proofs.gathered.Gathered.push_unknowns.Goals as goal

pub returns : goal.returns
returns c =
    let q = c.self.inside in
    let zeros : List ℕ = replicate c.args.count 0 in
    ap (λ (l : List ℕ). c.args.out.now.items ++ l)
    (zeros_taken q.bytes q.len c.self.invariant c.args.count (omega (arith, c.if-count-self.false, c.self.invariant.within)) ∙ ap (λ (l : List ℕ). l ++ zeros) c.self.view_is)
    ∙ sym (append_assoc c.args.out.now.items c.args.self.now zeros)
