use Rattle.std.proofs.Common.{◌∙◌, ap, sym}
use Rattle.std.proofs.lemmas.Result.{IfOk-weaker}
use Rattle.small_states.specs.SmallValues.{whole_value}
use Rattle.small_states.proofs.SameValues.{join_held}
use Rattle.small_states.proofs.small_value.Small.join_unequal.Goals as goal

pub returns-then-has_member : goal.returns-then-has_member
returns-then-has_member c =
    IfOk-weaker c.copy.result _ _
    (λ s e. e ∙ join_held c.args.b.now c.args.self.now c.args.v.now c.in-One.x (sym c.v.view_is ∙ ap whole_value c.in-One.is) (c.has_member.ensures.0 c.if-has_member.true) c.requires.own) c.copy.ensures
