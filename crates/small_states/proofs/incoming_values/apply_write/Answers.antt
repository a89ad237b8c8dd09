use Rattle.std.proofs.Common.{◌∙◌, ℕ, Option, set, ap, sym}
use Rattle.std.proofs.lemmas.Result.{on_ok_weaker}
use Rattle.value_domain.specs.declared.values.Val.{Val}
use Rattle.vd_transfer.specs.Changes.{with_value_in_slot}
use Rattle.small_states.specs.CompactForms.{all_values}
use Rattle.small_states.proofs.incoming_values.apply_write.Goals as goal

pub returns : goal.returns
returns c =
    let vs = all_values c.args.values.now in
    let whole =
    ap (λ (u : Val). set vs c.in-Some.at u) c.in_ok-value.ensures
    ∙ sym (ap (λ (o : Option ℕ). with_value_in_slot vs c.args.write.now.value o) c.in-Some.is)
    in
    on_ok_weaker c.set_at_index.result (λ e. e ∙ whole) c.set_at_index.ensures
