use Rattle.std.proofs.Common.{◌≡◌, ◌∙◌, ◌++◌, ◌∷◌, [], List, length, take, ap, sym, arith}
use Rattle.std.proofs.lemmas.List.{take_all, take_more, take_more_set}
use Rattle.std.proofs.Math.ListN.{length-set}
use Rattle.value_domain.specs.declared.values.Val.{Val}
use Rattle.value_domain.specs.Values.{any_val}
use Rattle.vd_transfer.specs.Changes.{state_after}
use Rattle.vd_transfer.proofs.ChangeLaws.{length-changed}
use Rattle.vd_transfer.proofs.built_states.regs_after_change.Goals as goal

pub loop-i-preserved : goal.loop-i-preserved
loop-i-preserved c =
    let i = c.loop-i.i in
    let regs = (state_after c.args.s.now c.args.c.now).regs in
    let len : length regs ≡ 27 = length-changed c.args.s.now c.args.c.now (omega arith) in (
      take_more_set c.loop-i.out i c.copy.result (omega (arith, c.loop-i.invariant.1))
          ∙ ap (λ (l : List Val). l ++ c.copy.result ∷ []) c.loop-i.invariant.0
          ∙ ap (λ (u : Val). take i regs ++ u ∷ []) (c.copy.ensures ∙ c.changed_value.ensures)
          ∙ sym (take_more regs i any_val (omega (arith, len))),
      simp length-set c.loop-i.invariant.1,
    )

pub returns : goal.returns
returns c =
    let regs = (state_after c.args.s.now c.args.c.now).regs in
    let len : length regs ≡ 27 = length-changed c.args.s.now c.args.c.now (omega arith) in
    sym (take_all c.loop-i.i c.loop-i.out (omega (arith, c.loop-i.invariant.1))) ∙ c.loop-i.invariant.0 ∙ take_all c.loop-i.i regs (omega (arith, len))
