use Rattle.std.proofs.Common.{◌≡◌, ◌∙◌, ◌+◌, ◌-◌, ◌++◌, ◌∷◌, [], ℕ, List, take, replicate, ap, arith}
use Rattle.std.proofs.lemmas.List.{append_assoc, replicate_more, take_more_set}
use Rattle.std.proofs.Math.ListN.{length-set}
use Rattle.value_domain.specs.declared.values.Val.{Val}
use Rattle.value_domain.specs.Values.{any_val}
use Rattle.small_states.proofs.values.write_unknowns.Goals as goal

pub loop-i-preserved : goal.loop-i-preserved
loop-i-preserved c =
    let i = c.loop-i.i in
    let from = c.args.from in
    let old = c.args.out.now in
    let e : i - from + 1 ≡ i + 1 - from = omega (arith, c.loop-i.invariant.1) in (
      take_more_set c.loop-i.out i _ (omega (arith, c.loop-i.invariant.2))
          ∙ ap (λ (v : Val). take i c.loop-i.out ++ v ∷ []) c.write_any.ensures
          ∙ ap (λ (l : List Val). l ++ any_val ∷ []) c.loop-i.invariant.0
          ∙ append_assoc (take from old) (replicate (i - from) any_val) (any_val ∷ [])
          ∙ ap (λ (l : List Val). take from old ++ l) (replicate_more (i - from) any_val ∙ ap (λ (m : ℕ). replicate m any_val) e),
      omega (arith, c.loop-i.invariant.1),
      simp length-set c.loop-i.invariant.2,
    )
