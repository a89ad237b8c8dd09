use Rattle.std.proofs.Common.{inl, inr}
use Rattle.vd_transfer.proofs.SignLaws.{across, aside, unit_shift_32}
use Rattle.vd_transfer.proofs.signed_refinement.signed_range_of_span.Goals as goal

pub returns-then-e-ge-HALF : goal.returns-then-e-ge-HALF
returns-then-e-ge-HALF c =
    rw (unit_shift_32 c.args.step c.requires.0) (across c.args.lo c.args.last c.args.step c.requires c.extent_of-e.ensures c.if-e-lt-HALF.true c.if-e-ge-HALF.true)

pub returns-else-e-lt-HALF : goal.returns-else-e-lt-HALF
returns-else-e-lt-HALF c =
    aside c.args.lo c.args.last c.args.step c.requires c.extent_of-e.ensures (elim c.else-e-lt-HALF.either [ inl p ↦ inl p.1 | inr h ↦ inr h ])
