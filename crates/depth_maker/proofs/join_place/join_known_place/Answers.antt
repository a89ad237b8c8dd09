use Rattle.std.proofs.Common.{◌≡◌, Bool, true, false, Option, ap, sym, ◌∙◌, subst, refl}
use Rattle.std.proofs.lemmas.Option.{same_Some}
use Rattle.std.specs.Option.{option_map}
use Rattle.std.specs.Prelude.{is_some}
use Rattle.cfg_recover.specs.Assignments.{joined_at_place}
use Rattle.depth_cert.specs.Known.{CoversKnown, Known, state}
use Rattle.value_domain.specs.declared.states.State.{State}
use Rattle.frame_places.specs.declared.places.Spot.TheVariants.{Point}
use Rattle.frame_places.specs.declared.places.Marked.{Marked}
use Rattle.frame_places.specs.Counting.{frames_after_recording, points_after_recording}
use Rattle.frame_places.specs.Marks.{value_of_place}
use Rattle.frame_places.proofs.NearbyLemmas.{had_at, nowhere}
use Rattle.small_states.specs.Incoming.{incoming_known}
use Rattle.depth_maker.specs.SpotsAsPlaces.{place_of_spot}
use Rattle.depth_maker.specs.TableView.{view_of_table}
use Rattle.depth_maker.proofs.Below.{asks_well_formed}
use Rattle.depth_maker.proofs.Lawful.{lawful}
use Rattle.depth_maker.proofs.SpotLemmas.{forth}
use Rattle.depth_maker.proofs.TableLaws.{derived_well_formed}
use Rattle.depth_maker.proofs.JoinLemmas.{cells_well_formed, stays_joined, the_answer}
use Rattle.depth_maker.proofs.join_place.join_known_place.Goals as goal

pub covers-requires-clause-known : goal.covers-requires-clause-known
covers-requires-clause-known c =
    let s = c.args.table.now in
    cells_well_formed _ _ _ (lawful _ _ _ c.args.v.now.ground.now.sound) s c.requires.fine c.args.y.now c.in-Some.place.now.value
    (ap (option_map (λ (m : Marked Known). m.value)) (had_at s.places c.args.number c.args.y.now _ c.in-Some.place.now (sym c.in-Some.ensures.entry) c.in-Some.ensures.value c.requires.there))

pub covers-requires-clause-incoming : goal.covers-requires-clause-incoming
covers-requires-clause-incoming c =
    let laws = lawful _ _ _ c.args.v.now.ground.now.sound in
    asks_well_formed _ _ _ laws (view_of_table c.args.table.now).cells (place_of_spot c.args.y.now) (incoming_known c.args.incoming.now)
    (derived_well_formed _ _ _ laws (view_of_table c.args.table.now).cells (c.requires.fine.table).derived) c.requires.incoming

pub join_sharing-requires-clause-known : goal.join_sharing-requires-clause-known
join_sharing-requires-clause-known c =
    let s = c.args.table.now in
    cells_well_formed _ _ _ (lawful _ _ _ c.args.v.now.ground.now.sound) s c.requires.fine c.args.y.now c.in-Some.place.now.value
    (ap (option_map (λ (m : Marked Known). m.value)) (had_at s.places c.args.number c.args.y.now _ c.in-Some.place.now (sym c.in-Some.ensures.entry) c.in-Some.ensures.value c.requires.there))

pub join_sharing-requires-clause-incoming : goal.join_sharing-requires-clause-incoming
join_sharing-requires-clause-incoming c =
    let laws = lawful _ _ _ c.args.v.now.ground.now.sound in
    asks_well_formed _ _ _ laws (view_of_table c.args.table.now).cells (place_of_spot c.args.y.now) (incoming_known c.args.incoming.now)
    (derived_well_formed _ _ _ laws (view_of_table c.args.table.now).cells (c.requires.fine.table).derived) c.requires.incoming

pub join_sharing-requires-clause-own : goal.join_sharing-requires-clause-own
unfolding view_of_table
join_sharing-requires-clause-own c =
    let t = c.args.table.now in
    let x = Point c.args.v.now.key c.args.v.now.addr in
    let had = had_at t.places t.near x _ c.in-Some-get_index.own.now (sym c.in-Some-get_index.ensures.entry) c.in-Some-get_index.ensures.value c.requires.near in
    same_Some c.in-Some-get_index.own.now.value (state c.args.v.now.state.now) (sym (ap (option_map (λ (m : Marked Known). m.value)) had) ∙ c.requires.at)
    ∙ sym (ap (λ (s : State). state s) c.requires.own)

pub set_and_queue_place-requires : goal.set_and_queue_place-requires
set_and_queue_place-requires c = record { listed = c.requires.fine.listed }

pub returns-then-covers : goal.returns-then-covers
unfolding view_of_table
returns-then-covers c =
    let s = c.args.table.now in
    let at = ap (option_map (λ (m : Marked Known). m.value)) (had_at s.places c.args.number c.args.y.now _ c.in-Some.place.now (sym c.in-Some.ensures.entry) c.in-Some.ensures.value c.requires.there) in
    stays_joined _ _ _ s c.args.y.now (incoming_known c.args.incoming.now) c.requires.fine
    (record {
      known = c.in-Some.place.now.value;
      at = ap (value_of_place s.places) (forth c.args.y.now) ∙ at;
      covers = c.covers.ensures.0 c.if-covers.true;
    })

pub returns-in_default-2 : goal.returns-in_default-2
returns-in_default-2 c =
    let s = c.args.table.now in
    let at = ap (option_map (λ (m : Marked Known). m.value)) (had_at s.places c.args.number c.args.y.now _ c.in-Some.place.now (sym c.in-Some.ensures.entry) c.in-Some.ensures.value c.requires.there) in
    the_answer _ _ _ s c.args.y.now c.in-Some.place.now.value (incoming_known c.args.incoming.now) c.requires.fine c.requires.incoming at (sym c.in_ok-cell.ensures ∙ c.in_default-2.is)

pub returns : goal.returns
returns c =
    let s = c.args.table.now in
    let v = incoming_known c.args.incoming.now in
    let at = ap (option_map (λ (m : Marked Known). m.value)) (had_at s.places c.args.number c.args.y.now _ c.in-Some.place.now (sym c.in-Some.ensures.entry) c.in-Some.ensures.value c.requires.there) in
    record {
      known = c.in-Some-2.cell;
      raises = ap (λ (o : Option Known). joined_at_place c.args.v.now.ground.now.bounds.now o v) at ∙ sym c.in_ok-cell.ensures ∙ c.in-Some-2.is;
      new = λ w there covers.
          (let no : true ≡ false =
          sym (c.covers.ensures.1 (subst (λ (z : Known). CoversKnown z v) (same_Some w c.in-Some.place.now.value (sym there ∙ at)) covers)) ∙ c.if-covers.false in cc);
      puts = c.in_ok-set_and_queue_place.ensures.puts c.args.y.now c.requires.there;
      listed = c.in_ok-set_and_queue_place.ensures.work c.args.y.now c.requires.there;
      near = refl;
      readers = refl;
      covered = refl;
      points = ap (λ (k : Bool). points_after_recording k s.points.items c.args.y.now) (sym (ap is_some at));
      frames = ap (λ (k : Bool). frames_after_recording k s.frames.items c.args.y.now) (sym (ap is_some at));
      few = (c.requires.fine.counted).few;
    }

pub unreachable-requires : goal.unreachable-requires
unreachable-requires c = nowhere c.args.table.now.places c.args.number c.args.y.now (sym c.in_default.ensures.entry) c.requires.there
