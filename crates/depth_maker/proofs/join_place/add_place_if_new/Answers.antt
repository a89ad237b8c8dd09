use Rattle.std.proofs.Common.{Bool, None, Some, Option, ap, sym, ◌∙◌, ◌≡◌, subst, refl}
use Rattle.std.specs.Prelude.{is_some}
use Rattle.std.proofs.lemmas.Result.{err_from_is_err_and}
use Rattle.cfg_recover.specs.Assignments.{joined_at_place}
use Rattle.depth_cert.specs.Known.{Known}
use Rattle.frame_places.proofs.MarkLemmas.{same_number}
use Rattle.frame_places.specs.Counting.{IsLimitRefusal, frames_after_recording, points_after_recording}
use Rattle.frame_places.specs.Work.{all_work}
use Rattle.depth_maker.specs.TableView.{view_of_table}
use Rattle.depth_maker.proofs.CountedLemmas.{are_few, few_spots, limit_passed}
use Rattle.depth_maker.proofs.Lawful.{lawful}
use Rattle.depth_maker.proofs.PartLemmas.{registered_fine}
use Rattle.depth_maker.proofs.join_place.add_place_if_new.Goals as goal

pub add_or_find_place-requires : goal.add_or_find_place-requires
add_or_find_place-requires c = record { listed = c.requires.listed }

pub record_place-requires-clause-points : goal.record_place-requires-clause-points
record_place-requires-clause-points c = (few_spots _ _ c.requires.few).0

pub record_place-requires-clause-frames : goal.record_place-requires-clause-frames
record_place-requires-clause-frames c = (few_spots _ _ c.requires.few).1

pub returns-in_err-record_place-in-None : goal.returns-in_err-record_place-in-None
unfolding view_of_table
returns-in_err-record_place-in-None c = λ g fine asks.
    let s = c.args.table.now in
    let new = (rw c.in-None.is at c.in_ok-add_or_find_place.ensures).0 in
    let p = err_from_is_err_and c.from_residual-in_err-record_place-in-None.result c.from_residual-in_err-record_place-in-None.ensures.1 in
    rw (p.1, p.2)
    (limit_passed _ _ _ s.places s.points.items s.frames.items c.args.y c.args.value (fine.table).derived asks fine.counted _
    (subst (λ (k : Bool). IsLimitRefusal k s.points.items s.frames.items c.args.y c.in_err-record_place-in-None.field-0.0) (sym (ap is_some new)) c.in_err-record_place-in-None.ensures.err))

pub returns-in_ok-record_place-in-None : goal.returns-in_ok-record_place-in-None
returns-in_ok-record_place-in-None c = λ g fine asks.
    let s = c.args.table.now in
    let added = rw c.in-None.is at c.in_ok-add_or_find_place.ensures in
    let new = added.0 in
    record {
      known = c.args.value;
      raises = ap (λ (o : Option Known). joined_at_place g.bounds.now o c.args.value) new;
      new = λ w at h. (let no : None ≡ Some w = sym new ∙ at in cc);
      puts = added.1;
      listed = added.2;
      near = refl;
      readers = refl;
      covered = refl;
      points = c.in_ok-record_place-in-None.ensures.points ∙ ap (λ (k : Bool). points_after_recording k s.points.items c.args.y) (sym (ap is_some new));
      frames = c.in_ok-record_place-in-None.ensures.frames ∙ ap (λ (k : Bool). frames_after_recording k s.frames.items c.args.y) (sym (ap is_some new));
      few = are_few _ _ c.in_ok-record_place-in-None.ensures.few_points c.in_ok-record_place-in-None.ensures.few_frames;
    }

pub returns-in-Some : goal.returns-in-Some
returns-in-Some c = λ g fine asks.
    let s = c.args.table.now in
    let m = record s { places = c.add_or_find_place.new.places; work = c.add_or_find_place.new.work } in
    let found = rw c.in-Some.is at c.in_ok-add_or_find_place.ensures in
    let kept = registered_fine _ _ _ (lawful _ _ _ g.sound) s m found.1 refl (ap all_work found.2) refl refl refl (λ z q h. h) fine.exits fine.readers fine in (
      same_number s.places m.places found.1 c.in-Some.number c.args.y found.0,
      record { fine = kept.0; keeps = kept.1; entries = found.1; rest = ap (λ w. record m { work = w }) found.2 },
    )
