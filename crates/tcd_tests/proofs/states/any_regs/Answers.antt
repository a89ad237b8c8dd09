use Rattle.std.proofs.Common.{◌≡◌, ◌∙◌, sym, ap, arith, set, take, replicate, ◌+◌, ◌++◌, List, ◌∷◌, []}
use Rattle.std.proofs.lemmas.List.{take_all, take_more_set, replicate_more}
use Rattle.std.proofs.Math.ListN.{length-set}
use Rattle.value_domain.specs.declared.values.Val.{Val}
use Rattle.value_domain.specs.Values.{any_val}
use Rattle.tcd_tests.proofs.states.any_regs.Goals as goal

pub loop-i-preserved : goal.loop-i-preserved
loop-i-preserved c = (
  ap (λ (u : Val). take (c.loop-i.i + 1) (set c.loop-i.regs c.loop-i.i u)) c.any.ensures
      ∙ take_more_set c.loop-i.regs c.loop-i.i any_val (omega (arith, c.loop-i.invariant.1))
      ∙ ap (λ (l : List Val). l ++ any_val ∷ []) c.loop-i.invariant.0
      ∙ replicate_more c.loop-i.i any_val,
  simp length-set c.loop-i.invariant.1,
)

pub returns : goal.returns
returns c =
    let all : c.loop-i.i ≡ 27 = omega arith in
    sym (take_all c.loop-i.i c.loop-i.regs (omega (arith, c.loop-i.invariant.1)))
    ∙ c.loop-i.invariant.0
    ∙ ap (λ n. replicate n any_val) all
