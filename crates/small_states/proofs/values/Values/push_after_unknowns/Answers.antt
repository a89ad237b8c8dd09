use Rattle.std.proofs.Common.{◌∙◌, ◌++◌, ◌∷◌, [], List, length, replicate, ap, arith}
use Rattle.std.proofs.lemmas.List.{length-append, length-replicate}
use Rattle.std.proofs.lemmas.Result.{on_ok_weaker}
use Rattle.value_domain.specs.declared.values.Val.{Val}
use Rattle.value_domain.specs.Values.{any_val}
use Rattle.small_states.specs.CompactForms.{all_values}
use Rattle.small_states.proofs.values.Values.push_after_unknowns.Goals as goal

pub push_unknowns-requires : goal.push_unknowns-requires
push_unknowns-requires c = omega (arith, c.requires)

pub push_value-requires : goal.push_value-requires
push_value-requires c =
    omega (
      arith,
      c.requires,
      ap (λ (l : List Val). length l) c.push_unknowns.ensures,
      length-append (all_values c.args.self.now) (replicate c.args.anys any_val),
      length-replicate c.args.anys any_val,
    )

pub returns : goal.returns
returns c = on_ok_weaker c.push_value.result (λ e. e ∙ ap (λ (l : List Val). l ++ c.args.value ∷ []) c.push_unknowns.ensures) c.push_value.ensures
