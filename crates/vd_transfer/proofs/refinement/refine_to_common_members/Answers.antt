use Rattle.std.proofs.Common.{◌∙◌}
use Rattle.value_domain.specs.Values.{members, is_member}
use Rattle.vd_transfer.proofs.Meets.{kept_common, kept_range}
use Rattle.value_domain.proofs.MeetLaws.{is_member_parts}
use Rattle.vd_transfer.proofs.refinement.refine_to_common_members.Goals as goal

pub returns-in-Set-clause-kept : goal.returns-in-Set-clause-kept
returns-in-Set-clause-kept c =
    c.write_meet_with_set.ensures.kept
    ∙ rw (c.in-Set.is, c.as_slice.ensures.items)
    (kept_common c.args.b.now (members c.args.v.now) c.in-Set.words (λ x. is_member x c.args.v.now) (λ x. is_member_parts x c.args.v.now c.requires.left.well))

pub returns-in-Span-clause-kept : goal.returns-in-Span-clause-kept
returns-in-Span-clause-kept c =
    let well = rw c.in-Span.is at c.requires.right.well in
    c.write_meet_with_span.ensures.meet ∙ rw c.in-Span.is (kept_range c.args.b.now (members c.args.v.now) c.in-Span.lo c.in-Span.last c.in-Span.step well.0)
