use Rattle.std.proofs.Common.{◌∙◌, ap, sym, arith}
use Rattle.std.proofs.lemmas.List.{take_all, get_or_default}
use Rattle.std.proofs.Math.ListN.{length-set}
use Rattle.value_domain.specs.declared.values.Val.{Val}
use Rattle.value_domain.specs.Values.{any_val}
use Rattle.depth_cert.specs.Exits.{values_after_return_from}
use Rattle.depth_cert.proofs.ExitValues.{lower_more, restored_at, with_lower_length}
use Rattle.cfg_recover.proofs.after_return.regs_after_return.Goals as goal

pub loop-i-preserved : goal.loop-i-preserved
loop-i-preserved c =
    let i = c.loop-i.i in
    let regs = c.args.regs.now in
    let v = c.index-regs-i.result in
    let value = c.copy.ensures ∙ c.value_after_return.ensures ∙ ap (λ (u : Val). restored_at i c.args.lower.now u) (get_or_default regs i v any_val (omega arith)) in
    (lower_more c.args.lower.now regs c.loop-i.out i c.copy.result (omega arith) (omega (arith, c.loop-i.invariant.1)) value c.loop-i.invariant.0, simp length-set c.loop-i.invariant.1)

pub returns : goal.returns
returns c =
    sym (take_all c.loop-i.i c.loop-i.out (omega (arith, c.loop-i.invariant.1)))
    ∙ c.loop-i.invariant.0
    ∙ take_all c.loop-i.i (values_after_return_from 0 c.args.lower.now c.args.regs.now) (omega (arith, with_lower_length c.args.lower.now c.args.regs.now))
