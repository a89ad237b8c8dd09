use Rattle.std.proofs.Common.{List, Contains, sym, subst}
use Rattle.value_domain.specs.declared.states.State.{State}
use Rattle.depth_cert.specs.Known.{CoversKnown, state}
use Rattle.depth_cert.specs.WellFormed.{IsWellFormedState}
use Rattle.depth_maker.specs.declared.last_call.LastCall.{LastCall}
use Rattle.depth_maker.proofs.Lawful.{lawful}
use Rattle.depth_maker.proofs.NotedCalls.{enters_already, entry_well_formed}
use Rattle.depth_maker.proofs.calls.has_covering_call.Goals as goal

pub covers-requires-clause-known : goal.covers-requires-clause-known
covers-requires-clause-known c =
    let last = c.in-Some.last.now in
    (c.requires.visited.fine.covered.1 last (subst (λ (l : List LastCall). Contains l last) c.as_slice.ensures.value c.in-Some.ensures.0)).well_formed

pub covers-requires-clause-incoming : goal.covers-requires-clause-incoming
covers-requires-clause-incoming c =
    let v = c.args.v.now in
    let g = v.ground.now in
    subst (IsWellFormedState g.bounds.now) (sym c.requires.entry) (entry_well_formed g.bounds.now g.image.now g.plan.now v.key v.addr v.state.now c.requires.visited.well_formed)

pub returns-in-Some : goal.returns-in-Some
returns-in-Some c told =
    let v = c.args.v.now in
    let g = v.ground.now in
    let last = c.in-Some.last.now in
    enters_already _ _ _ v.key v.addr v.state.now (lawful _ _ _ g.sound) c.args.table.now last c.args.targets.now.items c.requires.visited.fine c.requires.visited.well_formed
    (c.requires.visited.fine.covered.1 last (subst (λ (l : List LastCall). Contains l last) c.as_slice.ensures.value c.in-Some.ensures.0)) c.in-Some.ensures.1
    (subst (λ (s : State). CoversKnown last.entry (state s)) c.requires.entry (c.covers.ensures.0 told))
