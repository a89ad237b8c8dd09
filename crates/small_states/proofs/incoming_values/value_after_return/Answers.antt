use Rattle.std.proofs.Common.{◌∙◌, ap, sym, arith}
use Rattle.std.proofs.lemmas.List.{get_or_default}
use Rattle.value_domain.specs.declared.values.Val.{Val}
use Rattle.value_domain.specs.Values.{any_val}
use Rattle.depth_cert.proofs.ExitValues.{after-at, restored_at}
use Rattle.small_states.specs.CompactForms.{all_values}
use Rattle.small_states.proofs.incoming_values.value_after_return.Goals as goal

pub returns : goal.returns
returns c =
    c.lower_or_caller_value.ensures
    ∙ ap (λ (u : Val). restored_at c.args.i (all_values c.args.exit.now.lower.value) u) (get_or_default c.args.s.now.regs c.args.i c.index-s-i.result any_val (omega arith))
    ∙ sym (after-at (all_values c.args.exit.now.lower.value) c.args.s.now.regs c.args.i (omega arith))
