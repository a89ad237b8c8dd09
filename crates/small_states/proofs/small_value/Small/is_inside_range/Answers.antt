use Rattle.std.proofs.Common.{◌∙◌, ap, subst, sym}
use Rattle.value_domain.specs.declared.values.Val.{Val}
use Rattle.value_domain.specs.declared.values.Val.TheVariants.{Span}
use Rattle.value_domain.specs.Values.{IsBelow}
use Rattle.small_states.specs.SmallValues.{whole_value}
use Rattle.small_states.proofs.SameValues.{one_below}
use Rattle.small_states.proofs.small_value.Small.is_inside_range.Goals as goal

pub returns-in-One : goal.returns-in-One
returns-in-One c = λ t.
    let range : Val = Span c.args.lo c.args.last c.args.step in
    subst (λ (u : Val). IsBelow u range) (sym (sym c.self.view_is ∙ ap whole_value c.in-One.is)) (one_below c.in-One.x range (c.is_word_in_range.ensures.0 t))
