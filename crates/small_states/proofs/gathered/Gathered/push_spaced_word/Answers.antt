use Rattle.std.proofs.Common.{◌∙◌, ◌++◌, ℕ, List, replicate, take, ap, sym, arith}
use Rattle.value_domain.specs.declared.values.Val.{Val}
use Rattle.depth_cert.specs.Spelling.{bytes_of_value}
use Rattle.small_states.proofs.ZeroLemmas.{one_behind, one_taken}
use Rattle.small_states.proofs.gathered.Gathered.push_spaced_word.Goals as goal

pub invariant_of-self : goal.invariant_of-self
invariant_of-self c =
    let q = c.self.inside in
    let few = c.if-at-gt187.false in
    rw c.to_le_bytes-word.ensures (one_behind q.bytes q.len c.self.invariant c.args.here.now.anys c.in-Some.x (omega (arith, few)))

pub returns-clause-put : goal.returns-clause-put
returns-clause-put c = λ t.
    let q = c.self.inside in
    let few = c.if-at-gt187.false in
    let anys = c.args.here.now.anys in
    let value = rw c.in-Some.is at c.single_word.ensures in
    rw c.to_le_bytes-word.ensures
    (one_taken q.bytes q.len c.self.invariant anys c.in-Some.x (omega (arith, few))
    ∙ ap (λ (u : Val). (take q.len q.bytes ++ replicate anys 0) ++ bytes_of_value u) (sym value)
    ∙ ap (λ (l : List ℕ). (l ++ replicate anys 0) ++ bytes_of_value c.args.here.now.value) c.self.view_is)
