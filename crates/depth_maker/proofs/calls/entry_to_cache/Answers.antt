use Rattle.std.proofs.Common.{◌≡◌, ◌∙◌, List, Contains, sym, ap, subst, Some}
use Rattle.depth_cert.specs.Known.{Known, joined_known, state}
use Rattle.depth_cert.specs.WellFormed.{IsWellFormedKnown}
use Rattle.depth_maker.specs.TableView.{view_of_table}
use Rattle.depth_maker.specs.VisitDuties.{IsCoveredEntry}
use Rattle.depth_maker.specs.declared.last_call.LastCall.{LastCall}
use Rattle.depth_maker.proofs.Lawful.{lawful}
use Rattle.depth_maker.proofs.NotedCalls.{both_entries, entry_covered, entry_well_formed}
use Rattle.depth_maker.proofs.calls.entry_to_cache.Goals as goal

pub join-requires-clause-known : goal.join-requires-clause-known
join-requires-clause-known c =
    let last = c.in-Some.last.now in
    (c.requires.visited.fine.covered.1 last (subst (λ (l : List LastCall). Contains l last) c.as_slice.ensures.value c.in-Some.ensures.0)).well_formed

pub join-requires-clause-incoming : goal.join-requires-clause-incoming
join-requires-clause-incoming c =
    let v = c.args.v.now in
    let g = v.ground.now in
    subst (λ s. IsWellFormedKnown g.bounds.now (state s)) (sym c.requires.entry) (entry_well_formed g.bounds.now g.image.now g.plan.now v.key v.addr v.state.now c.requires.visited.well_formed)

pub new-requires : goal.new-requires
new-requires c =
    let v = c.args.v.now in
    let g = v.ground.now in
    subst (λ s. IsWellFormedKnown g.bounds.now (state s)) (sym c.requires.entry) (entry_well_formed g.bounds.now g.image.now g.plan.now v.key v.addr v.state.now c.requires.visited.well_formed)

pub returns-in-Some-2 : goal.returns-in-Some-2
returns-in-Some-2 c =
    let v = c.args.v.now in
    let g = v.ground.now in
    let last = c.in-Some.last.now in
    both_entries _ _ _ v.key v.addr v.state.now (lawful _ _ _ g.sound) c.args.table.now last c.args.targets.now.items c.in-Some-2.joined c.requires.visited.fine c.requires.visited.well_formed
    (subst (λ (l : List LastCall). Contains l last) c.as_slice.ensures.value c.in-Some.ensures.0) c.in-Some.ensures.1
    (subst (λ s. joined_known g.bounds.now last.entry (state s) ≡ Some c.in-Some-2.joined) c.requires.entry (sym c.in_ok-joined.ensures ∙ c.in-Some-2.is))

pub returns : goal.returns
returns c =
    let v = c.args.v.now in
    let g = v.ground.now in
    subst (IsCoveredEntry v c.args.table.now c.args.targets.now.items) (sym (c.in_ok-entry.ensures ∙ ap state c.requires.entry)) (
      entry_well_formed g.bounds.now g.image.now g.plan.now v.key v.addr v.state.now c.requires.visited.well_formed,
      entry_covered g.bounds.now g.image.now g.plan.now v.key v.addr v.state.now (view_of_table c.args.table.now) c.args.targets.now.items,
    )
