use Rattle.std.proofs.Common.{false, get_or, subst, sym}
use Rattle.packed_cert.specs.declared.places.PointPlace.{PointPlace}
use Rattle.packed_cert.specs.Walks.{WalkData, IsNextWithSameState}
use Rattle.packed_cert.proofs.WalkSteps.{next_repeats}
use Rattle.packed_cert.proofs.walks.PointWalk.next_address_if_same_state.Goals as goal

pub returns-then-point : goal.returns-then-point
returns-then-point c =
    let own = c.self.inside in
    let none : PointPlace = record { addr = 0; place = 0; row = record { first = 0; behind = 0; from = 0 }; same = false } in
    let moved = c.self.invariant.moves own.next none own.state c.if-self.false c.self.invariant.here in
    subst (λ (w : WalkData). IsNextWithSameState w (get_or own.points.now own.next none).addr) c.self.view_is
    (next_repeats own.version own.bytes.now own.points.now own.next none own.state c.if-self.false (sym (moved.same c.if-point.true)))
