use Rattle.std.proofs.Common.{sym, ◌∙◌}
use Rattle.frame_places.specs.declared.places.Mark.TheVariants.{Queued}
use Rattle.frame_places.specs.Marks.{mark_of_place}
use Rattle.frame_places.specs.Work.{all_work}
use Rattle.frame_places.proofs.WorkLemmas.{adds_either}
use Rattle.frame_places.proofs.MarkLemmas.{AllListed-adds, marked_already}
use Rattle.frame_places.proofs.NearbyLemmas.{index_there, queued_mark}
use Rattle.frame_places.proofs.marks.requeue_place.Goals as goal

pub returns-in_ok-enqueue-clause-marks : goal.returns-in_ok-enqueue-clause-marks
returns-in_ok-enqueue-clause-marks g c = c.mark_place.ensures c.args.x (index_there c.args.places.now c.in-Some.number c.args.x (sym c.in-Some.ensures.index))

pub returns-in_ok-enqueue-clause-work : goal.returns-in_ok-enqueue-clause-work
returns-in_ok-enqueue-clause-work g c =
    let m = c.args.places.now in
    let stands = index_there m c.in-Some.number c.args.x (sym c.in-Some.ensures.index) in
    let marks = c.mark_place.ensures c.args.x stands in
    AllListed-adds m c.mark_place.new.places (all_work c.args.work.now) c.in-Some.number c.args.x marks.marks marks.numbers (all_work c.enqueue.new.work)
    (adds_either c.must_wait_for_round-later.result c.args.work.now c.enqueue.new.work c.in-Some.number c.in_ok-enqueue.ensures) (marks.numbers c.in-Some.number c.args.x stands) c.requires.listed

pub returns-else-not-is_place_queued-clause-marks : goal.returns-else-not-is_place_queued-clause-marks
returns-else-not-is_place_queued-clause-marks g c =
    let m = c.args.places.now in
    let stands = index_there m c.in-Some.number c.args.x (sym c.in-Some.ensures.index) in
    marked_already m c.args.x Queued (queued_mark (mark_of_place m c.args.x) (sym (c.is_place_queued.ensures c.args.x stands) ∙ c.if-not-is_place_queued.false))
