use Rattle.std.proofs.Common.{◌∙◌, ◌++◌, ap, append_assoc}
use Rattle.value_domain.specs.Meets.{cover_if_any}
use Rattle.value_domain.specs.Values.{members}
use Rattle.value_domain.proofs.RangeLaws.{members_below}
use Rattle.vd_transfer.proofs.SignLaws.{kept_parts, part}
use Rattle.vd_transfer.proofs.signed_refinement.refine_by_signed_relation.Goals as goal

pub returns-clause-kept : goal.returns-clause-kept
returns-clause-kept c =
    let vs = members c.args.v.now in
    let i1 = c.words_in_signed_interval.result.0 in
    let i2 = c.words_in_signed_interval.result.1 in
    let j1 = c.words_in_signed_interval-2.result.0 in
    let j2 = c.words_in_signed_interval-2.result.1 in
    let reached = rw (c.signed_rank.ensures, c.signed_rank-2.ensures) at c.related_intervals.ensures in
    c.join_members_in_interval.ensures.more ((part i1 vs ++ part i2 vs) ++ part j1 vs)
    (c.join_members_in_interval-three.ensures.more (part i1 vs ++ part i2 vs) (c.join_members_in_interval-two.ensures.more (part i1 vs) c.write_meet_with_span-one.ensures.meet))
    ∙ ap (cover_if_any c.args.b.now) (append_assoc (part i1 vs ++ part i2 vs) (part j1 vs) (part j2 vs))
    ∙ kept_parts c.args.b.now c.args.rel vs (members c.args.w.now) c.related_intervals.result.0 c.related_intervals.result.1 i1 i2 j1 j2 c.signed_range-low.result.0 c.signed_range-low.result.1
    c.requires.order c.signed_range-low.ensures (members_below c.args.v.now c.requires.left.well) reached c.words_in_signed_interval.ensures c.words_in_signed_interval-2.ensures
