use Rattle.std.proofs.Common.{◌∙◌, subst, sym}
use Rattle.std.proofs.lemmas.Result.{IfOk-weaker}
use Rattle.value_domain.specs.declared.values.Val.{Val}
use Rattle.value_domain.specs.Values.{IsBelow}
use Rattle.small_states.proofs.AboveLaws.{join_above}
use Rattle.small_states.proofs.SameValues.{join_under}
use Rattle.small_states.proofs.small_value.Small.join_range.Goals as goal

pub returns-then-has_all_of_range : goal.returns-then-has_all_of_range
returns-then-has_all_of_range c =
    let own = c.args.self.now in
    let v = c.args.v.now in
    let below = subst (λ (u : Val). IsBelow u own) (sym c.in-Span.is) (c.has_all_of_range.ensures c.if-has_all_of_range.true) in
    IfOk-weaker c.copy_out_of_line.result _ _ (λ s e. e ∙ join_under c.args.b.now own v c.requires.own c.requires.value.well below) c.copy_out_of_line.ensures

pub returns-then-is_inside_range : goal.returns-then-is_inside_range
returns-then-is_inside_range c =
    let own = c.args.self.now in
    let v = c.args.v.now in
    let below = subst (λ (u : Val). IsBelow own u) (sym c.in-Span.is) (c.is_inside_range.ensures c.if-is_inside_range.true) in
    IfOk-weaker c.from_value.result _ _ (λ s e. e ∙ sym (join_above c.args.b.now own v c.requires.own.well c.requires.value below)) c.from_value.ensures
