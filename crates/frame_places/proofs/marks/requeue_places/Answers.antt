use Rattle.std.proofs.Common.{subst, sym, List, [], take, arith, Contains}
use Rattle.std.proofs.lemmas.List.{take_all, take_more}
use Rattle.std.proofs.lemmas.List.Elements.{Contains-get_or}
use Rattle.frame_places.specs.declared.places.Spot.{Spot}
use Rattle.frame_places.specs.Marks.{RequeuesPlaces}
use Rattle.frame_places.proofs.MarkLemmas.{Requeues-none, Requeues-push, known_requeued}
use Rattle.frame_places.proofs.marks.requeue_places.Goals as goal

pub loop-x-init : goal.loop-x-init
loop-x-init g c = (c.requires.listed, Requeues-none c.args.places.now (Contains []) (λ q h. absurd (omega (arith, h.1))))

pub requeue_place-requires-clause-listed : goal.requeue_place-requires-clause-listed
requeue_place-requires-clause-listed g c = c.loop-x.invariant.0

pub requeue_place-requires-clause-known : goal.requeue_place-requires-clause-known
requeue_place-requires-clause-known g c =
    known_requeued c.args.places.now c.loop-x.places (Contains (take c.loop-x.x-index c.args.readers.now)) (Contains c.args.readers.now) c.loop-x.invariant.1 c.requires.known _
    (Contains-get_or c.args.readers.now c.loop-x.x-index _ c.loop-x-test.true)

pub loop-x-preserved : goal.loop-x-preserved
loop-x-preserved g c = (
  c.in_ok-requeue_place.ensures.work,
  subst (λ (ps : List Spot). RequeuesPlaces c.args.places.now c.requeue_place.new.places (Contains ps)) (sym (take_more c.args.readers.now c.loop-x.x-index _ c.loop-x-test.true))
      (Requeues-push c.args.places.now c.loop-x.places c.requeue_place.new.places (take c.loop-x.x-index c.args.readers.now) _ c.loop-x.invariant.1 c.in_ok-requeue_place.ensures.marks),
)

pub returns-clause-marks : goal.returns-clause-marks
returns-clause-marks g c =
    subst (λ (ps : List Spot). RequeuesPlaces c.args.places.now c.loop-x.places (Contains ps)) (take_all c.loop-x.x-index c.args.readers.now c.loop-x-test.false) c.loop-x.invariant.1

pub returns-clause-work : goal.returns-clause-work
returns-clause-work g c = c.loop-x.invariant.0
