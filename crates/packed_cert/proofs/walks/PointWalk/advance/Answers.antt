use Rattle.std.proofs.Common.{◌-◌, ◌+◌, ◌∙◌, take, drop, sym, ap, subst}
use Rattle.value_domain.specs.declared.states.State.{State}
use Rattle.packed_cert.specs.PointsInBytes.{points_in_bytes}
use Rattle.packed_cert.specs.Walks.{WalkData, KeepsOtherValues}
use Rattle.packed_cert.proofs.WalkSteps.{first_left, keeps_others}
use Rattle.packed_cert.proofs.walks.PointWalk.advance.Goals as goal

pub returns : goal.returns
returns c =
    let own = c.self.inside in
    let s = c.read_state_of_point-self-inside.new.room in
    let row = c.read_state_of_point-self-inside.result in
    let left = points_in_bytes own.version own.bytes.now (drop (own.next + 1) own.points.now) in (
      ap (λ (w : WalkData). w.left) (sym c.self.view_is) ∙ first_left own.version own.bytes.now own.points.now own.next _ s c.if-self.false c.read_state_of_point-self-inside.ensures.state,
      subst (λ (u : State). KeepsOtherValues u (record { points = points_in_bytes own.version own.bytes.now own.points.now; current = s; anew = take (row.behind - row.first) (drop row.first s.regs); left = left })) (ap (λ (w : WalkData). w.current) c.self.view_is)
          (keeps_others own.state s row left (points_in_bytes own.version own.bytes.now own.points.now) c.read_state_of_point-self-inside.ensures.row),
      ap (λ (w : WalkData). w.points) c.self.view_is,
    )

pub read_state_of_point-self-inside-requires-clause-moved : goal.read_state_of_point-self-inside-requires-clause-moved
read_state_of_point-self-inside-requires-clause-moved c = c.self.invariant.moves c.self.inside.next _ c.self.inside.state c.if-self.false c.self.invariant.here
