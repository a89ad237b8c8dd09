use Rattle.std.proofs.Common.{ℕ, subst, arith}
use Rattle.value_domain.specs.Values.{IsMember}
use Rattle.value_domain.proofs.PutLaws.{with_member}
use Rattle.vd_transfer.proofs.OpLaws.{met_more}
use Rattle.vd_transfer.proofs.operations.join_result.Goals as goal

pub returns-then-met-k-clause-cover : goal.returns-then-met-k-clause-cover
returns-then-met-k-clause-cover c =
    with_member c.args.b.now c.args.v.now c.args.z c.requires.value
    (subst (λ (y : ℕ). IsMember y c.args.v.now) c.if-met-k.true (c.requires.met c.recent_result_slot-k.result (omega arith)))

pub returns-clause-met : goal.returns-clause-met
returns-clause-met c =
    rw c.join_word.ensures.cover
    (met_more c.args.b.now c.args.v.now c.args.met.now c.recent_result_slot-k.result c.args.z c.requires.value.well (omega arith) c.requires.met)
