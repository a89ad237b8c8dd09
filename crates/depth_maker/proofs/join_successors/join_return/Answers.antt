use Rattle.std.proofs.Common.{sym, ◌∙◌, ◌≡◌, ap, subst, Some}
use Rattle.std.specs.Option.{option_map}
use Rattle.frame_places.specs.declared.places.Marked.{Marked}
use Rattle.frame_places.specs.Marks.{value_of_place}
use Rattle.depth_cert.specs.Known.{Known, leaving, IsNotExit}
use Rattle.cfg_recover.specs.Duties.{resume}
use Rattle.frame_places.specs.declared.places.Spot.TheVariants as spots
use Rattle.small_states.specs.CompactForms.{whole_exit}
use Rattle.depth_maker.proofs.VisitLemmas.{exit_known}
use Rattle.depth_maker.proofs.PartLemmas.{has_duty, resume_asks, on_resume, duties_queued, duties_resume_none}
use Rattle.depth_maker.proofs.join_successors.join_return.Goals as goal

pub returns-then-is_place_queued-clause-ok : goal.returns-then-is_place_queued-clause-ok
returns-then-is_place_queued-clause-ok c = duties_queued _ _ _ _ _ _ c.args.table.now _ c.requires.visited (sym (c.is_place_queued.ensures _ c.requires.visited.stands) ∙ c.if-is_place_queued.true)

pub returns-in_default-clause-ok : goal.returns-in_default-clause-ok
returns-in_default-clause-ok c =
    duties_resume_none _ _ _ c.args.v.now.key c.args.v.now.addr c.args.v.now.state.now c.args.table.now 4 c.args.key c.args.back c.requires.visited.fine (sym (ap (option_map (λ (m : Marked Known). m.value)) c.in_default.ensures.value)) c.requires.registered

pub unreachable-requires : goal.unreachable-requires
unreachable-requires c =
    let e = exit_known _ _ _ c.args.table.now c.args.key c.in-Some.place.now.value c.requires.visited.fine (sym (ap (option_map (λ (m : Marked Known). m.value)) c.in-Some.ensures.value)) in
    subst (λ (w : Known). IsNotExit w) e.1 c.in_default-exit.ensures.none

pub join_at_place-requires-clause-fine : goal.join_at_place-requires-clause-fine
join_at_place-requires-clause-fine c = c.requires.visited.fine

pub join_at_place-requires-clause-near : goal.join_at_place-requires-clause-near
join_at_place-requires-clause-near c = c.requires.visited.stands

pub join_at_place-requires-clause-incoming : goal.join_at_place-requires-clause-incoming
join_at_place-requires-clause-incoming c =
    let v = c.args.v.now in
    let x = whole_exit c.in_ok-copy.copy in
    let there : value_of_place c.args.table.now.places (spots.Exit c.args.key) ≡ Some (leaving x) =
    sym (ap (option_map (λ (m : Marked Known). m.value)) c.in-Some.ensures.value) ∙ ap (λ (w : Known). Some w) (c.in-Some-exit.ensures.some ∙ ap leaving (sym c.in_ok-copy.ensures)) in
    resume_asks _ _ _ v.key v.addr v.state.now c.args.table.now c.args.key c.args.back x there
    (has_duty _ _ _ v.key v.addr v.state.now c.args.table.now (resume c.args.key c.args.back) c.requires.visited (sym (c.is_place_queued.ensures _ c.requires.visited.stands) ∙ c.if-is_place_queued.false) c.requires.owes)

pub join_at_place-requires-clause-at : goal.join_at_place-requires-clause-at
join_at_place-requires-clause-at c = c.requires.visited.at (sym (c.is_place_queued.ensures _ c.requires.visited.stands) ∙ c.if-is_place_queued.false)

pub returns-clause-ok : goal.returns-clause-ok
returns-clause-ok c =
    let v = c.args.v.now in
    let x = whole_exit c.in_ok-copy.copy in
    let there : value_of_place c.args.table.now.places (spots.Exit c.args.key) ≡ Some (leaving x) =
    sym (ap (option_map (λ (m : Marked Known). m.value)) c.in-Some.ensures.value) ∙ ap (λ (w : Known). Some w) (c.in-Some-exit.ensures.some ∙ ap leaving (sym c.in_ok-copy.ensures)) in
    on_resume _ _ _ v.key v.addr v.state.now c.args.table.now c.join_at_place.new.table 4 c.args.key c.args.back x c.join_at_place.result there c.requires.registered c.join_at_place.ensures.ok
