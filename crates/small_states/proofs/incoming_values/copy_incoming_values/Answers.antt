use Rattle.std.proofs.Common.{◌∙◌, ◌++◌, ◌∷◌, [], List, length, take, ap, sym, arith}
use Rattle.std.proofs.lemmas.List.{length-take-le, take_all, take_more}
use Rattle.value_domain.specs.declared.values.Val.{Val}
use Rattle.value_domain.specs.Values.{any_val}
use Rattle.small_states.specs.Incoming.{incoming_values}
use Rattle.small_states.proofs.incoming_values.copy_incoming_values.Goals as goal

pub push_value-requires : goal.push_value-requires
push_value-requires c =
    let ws = incoming_values c.args.incoming.now in
    omega (
      arith,
      c.count_incoming_values-count.ensures.long,
      c.count_incoming_values-count.ensures.few,
      ap (λ (l : List Val). length l) c.loop-i.invariant,
      length-take-le c.loop-i.i ws (omega (arith, c.count_incoming_values-count.ensures.long)),
    )

pub loop-i-preserved : goal.loop-i-preserved
loop-i-preserved c =
    let ws = incoming_values c.args.incoming.now in
    c.in_ok-push_value.ensures
    ∙ ap (λ (l : List Val). l ++ c.in_ok-value.value ∷ []) c.loop-i.invariant
    ∙ ap (λ (u : Val). take c.loop-i.i ws ++ u ∷ []) (c.in_ok-value.ensures ∙ c.incoming_value.ensures)
    ∙ sym (take_more ws c.loop-i.i any_val (omega (arith, c.count_incoming_values-count.ensures.long)))

pub returns : goal.returns
returns c = c.loop-i.invariant ∙ take_all c.loop-i.i (incoming_values c.args.incoming.now) (omega (arith, c.count_incoming_values-count.ensures.long))
