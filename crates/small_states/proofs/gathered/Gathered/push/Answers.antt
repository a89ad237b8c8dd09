use Rattle.std.proofs.Common.{◌∙◌, ◌++◌, ◌∷◌, [], ℕ, List, length, ap, arith}
use Rattle.small_states.proofs.ZeroLemmas.{byte_behind, byte_taken}
use Rattle.small_states.proofs.gathered.Gathered.push.Goals as goal

pub invariant_of-self : goal.invariant_of-self
invariant_of-self c =
    let q = c.self.inside in
    byte_behind q.bytes q.len c.self.invariant c.args.x (omega (arith, c.requires, ap (λ (l : List ℕ). length l) c.self.view_is, c.self.invariant.long))

pub returns : goal.returns
returns c =
    let q = c.self.inside in
    byte_taken q.bytes q.len c.self.invariant c.args.x (omega (arith, c.requires, ap (λ (l : List ℕ). length l) c.self.view_is, c.self.invariant.long))
    ∙ ap (λ (l : List ℕ). l ++ c.args.x ∷ []) c.self.view_is
