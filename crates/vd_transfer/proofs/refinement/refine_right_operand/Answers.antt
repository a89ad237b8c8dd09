use Rattle.std.proofs.Common.{◌∙◌, ap, sym}
use Rattle.value_domain.specs.Values.{members}
use Rattle.value_domain.specs.Meets.{cover_if_any}
use Rattle.vd_transfer.specs.Relations.{operand_relation}
use Rattle.vd_transfer.proofs.RelationLaws.{signed_order, converse_order, right_plain, right_signed}
use Rattle.vd_transfer.proofs.refinement.refine_right_operand.Goals as goal

pub refine_by_signed_relation-requires-clause-order : goal.refine_by_signed_relation-requires-clause-order
refine_by_signed_relation-requires-clause-order c =
    rw (c.converse-rel.ensures, c.operand_relation.ensures) (converse_order (operand_relation c.args.test.cond c.args.test.side) (signed_order c.args.test.cond c.args.test.side (sym c.is_signed_condition.ensures ∙ c.if-is_signed_condition.true)))

pub returns-then-is_signed_condition-clause-kept : goal.returns-then-is_signed_condition-clause-kept
returns-then-is_signed_condition-clause-kept c =
    rw (c.converse-rel.ensures, c.operand_relation.ensures) at c.refine_by_signed_relation.ensures.kept
    ∙ ap (cover_if_any c.args.b.now) (right_signed c.args.test.cond c.args.test.side (members c.args.v.now) (members c.args.w.now) (sym c.is_signed_condition.ensures ∙ c.if-is_signed_condition.true))

pub returns-else-is_signed_condition-clause-kept : goal.returns-else-is_signed_condition-clause-kept
returns-else-is_signed_condition-clause-kept c =
    rw (c.converse-rel.ensures, c.operand_relation.ensures) at c.refine_by_relation.ensures.kept
    ∙ ap (cover_if_any c.args.b.now) (right_plain c.args.test.cond c.args.test.side (members c.args.v.now) (members c.args.w.now) (sym c.is_signed_condition.ensures ∙ c.if-is_signed_condition.false))
