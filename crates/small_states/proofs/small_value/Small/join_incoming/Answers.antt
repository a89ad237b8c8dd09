use Rattle.std.proofs.Common.{◌∙◌}
use Rattle.std.proofs.lemmas.Result.{IfOk-weaker}
use Rattle.small_states.proofs.SameValues.{join_same}
use Rattle.small_states.proofs.small_value.Small.join_incoming.Goals as goal

pub returns-then-is_equal : goal.returns-then-is_equal
returns-then-is_equal c =
    let own = c.requires.own in
    rw c.in-Compact.is
    (IfOk-weaker c.copy.result _ _ (λ s e. e ∙ join_same c.args.b.now c.args.self.now c.in-Compact.v.now (c.is_equal.ensures c.if-is_equal.true) own) c.copy.ensures)
