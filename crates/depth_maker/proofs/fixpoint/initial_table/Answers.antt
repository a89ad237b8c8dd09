use Rattle.std.proofs.Common.{refl, sym, ap, subst, ◌∙◌, ◌++◌, ◌∷◌, [], List, Option, Some}
use Rattle.std.specs.Prelude.{if◌then◌else◌}
use Rattle.std.specs.Option.{option_map}
use Rattle.value_domain.specs.declared.states.State.{State}
use Rattle.depth_cert.specs.Known.{Known, state}
use Rattle.depth_cert.specs.WellFormed.{IsWellFormedState}
use Rattle.depth_cert.specs.declared.keys.Key.{Key}
use Rattle.frame_places.specs.declared.places.Spot.{Spot}
use Rattle.frame_places.specs.declared.places.Spot.TheVariants.{Point}
use Rattle.frame_places.specs.declared.places.Mark.{Mark}
use Rattle.frame_places.specs.declared.places.Mark.TheVariants.{Queued}
use Rattle.frame_places.specs.declared.places.Marked.{Marked}
use Rattle.frame_places.specs.Spots.{spot_eq}
use Rattle.frame_places.specs.Work.{all_work}
use Rattle.depth_maker.proofs.Lawful.{lawful}
use Rattle.depth_maker.proofs.VisitLemmas.{begun_table, get_none, none_listed}
use Rattle.depth_maker.proofs.fixpoint.initial_table.Goals as goal

pub new-requires : goal.new-requires
new-requires c =
    let g = c.args.ground.now in
    subst (λ (s : State). IsWellFormedState g.bounds.now s) (sym (c.identity_change-same.ensures.same ∙ c.start_state-start.ensures)) (lawful g.bounds.now g.image.now g.plan.now g.sound).start_well_formed

pub add_queued_place-requires-clause-listed : goal.add_queued_place-requires-clause-listed
add_queued_place-requires-clause-listed c = none_listed c.in_ok-places.places (all_work c.new-work.result) c.in_ok-places.ensures.empty c.new-work.ensures

pub add_queued_place-requires-clause-new : goal.add_queued_place-requires-clause-new
add_queued_place-requires-clause-new c =
    let k = c.start_key-key.result in
    ap (option_map (λ (m : Marked Known). m.value)) (get_none c.in_ok-places.places (Point k k.entry) c.in_ok-places.ensures.empty)

pub returns-clause-ok : goal.returns-clause-ok
returns-clause-ok c =
    let g = c.args.ground.now in
    let k = c.start_key-key.result in
    let x = Point k k.entry in
    let v = c.in_ok-cell.cell in
    let place = ap (λ (z : Key). Point z z.entry) c.start_key-key.ensures in
    let known = c.in_ok-cell.ensures ∙ ap state (c.identity_change-same.ensures.same ∙ c.start_state-start.ensures) in
    let puts = c.in_ok-add_queued_place.ensures.puts in
    begun_table g.bounds.now g.image.now g.plan.now _ x v place known
    (λ q. puts.values q ∙ ap (λ (o : Option Known). (if spot_eq x q then Some v else o)) (ap (option_map (λ (m : Marked Known). m.value)) (get_none c.in_ok-places.places q c.in_ok-places.ensures.empty)))
    (λ q. puts.marks q ∙ ap (λ (o : Option Mark). (if spot_eq x q then Some Queued else o)) (ap (option_map (λ (m : Marked Known). m.mark)) (get_none c.in_ok-places.places q c.in_ok-places.ensures.empty)))
    c.in_ok-add_queued_place.ensures.work
    (c.in_ok-push.ensures.items ∙ ap (λ (w : List Spot). w ++ x ∷ []) c.new-points.ensures.items)
    (c.in_ok-push-2.ensures.items ∙ ap (λ (w : List Key). w ++ k ∷ []) c.new-frames.ensures.items ∙ ap (λ (z : Key). z ∷ []) c.start_key-key.ensures) refl c.new-calls.ensures.items
    (λ z. c.empty_exit_readers.ensures z)
