use Rattle.std.proofs.Common.{false, sym, subst}
use Rattle.value_domain.specs.State.{AreWellFormed}
use Rattle.vd_transfer.specs.Changes.{state_after}
use Rattle.packed_cert.specs.declared.places.PointPlace.{PointPlace}
use Rattle.packed_cert.specs.Walks.{WalkData, IsCoveredByNext}
use Rattle.packed_cert.proofs.WalkSteps.{covers_at}
use Rattle.packed_cert.proofs.walks.PointWalk.is_covered_by_next.Goals as goal

pub is_covered_by_next_point-requires-clause-hand : goal.is_covered_by_next_point-requires-clause-hand
is_covered_by_next_point-requires-clause-hand c = subst (λ (w : WalkData). AreWellFormed w.current.regs) (sym c.self.view_is) c.requires.hand

pub is_covered_by_next_point-requires-clause-well : goal.is_covered_by_next_point-requires-clause-well
is_covered_by_next_point-requires-clause-well c = subst (λ (w : WalkData). AreWellFormed (state_after w.current c.args.c.now).regs) (sym c.self.view_is) c.requires.changed

pub is_covered_by_next_point-requires-clause-moved : goal.is_covered_by_next_point-requires-clause-moved
is_covered_by_next_point-requires-clause-moved c = c.self.invariant.moves c.self.inside.next _ c.self.inside.state c.if-self.false c.self.invariant.here

pub returns-in-Same : goal.returns-in-Same
returns-in-Same c = λ t.
    let own = c.self.inside in
    let none : PointPlace = record { addr = 0; place = 0; row = record { first = 0; behind = 0; from = 0 }; same = false } in
    subst (λ (w : WalkData). IsCoveredByNext w c.args.addr (state_after w.current c.args.c.now)) c.self.view_is
    (covers_at own.version own.bytes.now own.points.now own.next none c.args.addr (state_after own.state c.args.c.now) c.if-self.false c.if-point-addr.false (c.is_covered_by_next_point.ensures t))
