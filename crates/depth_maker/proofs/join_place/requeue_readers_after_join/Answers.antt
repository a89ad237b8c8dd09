use Rattle.frame_places.proofs.MarkLemmas.{Requeues-none}
use Rattle.frame_places.proofs.ReaderLemmas.{none_forgotten}
use Rattle.depth_maker.proofs.join_place.requeue_readers_after_join.Goals as goal

pub returns-in-Point-clause-marks : goal.returns-in-Point-clause-marks
returns-in-Point-clause-marks c = Requeues-none c.args.places.now _ (λ q h. c.requires.exits _ _ q (rw c.in-Point.is at h))

pub returns-in-Point-clause-readers : goal.returns-in-Point-clause-readers
returns-in-Point-clause-readers c = none_forgotten c.args.readers.now c.args.y.now (λ q h. c.requires.exits _ _ q (rw c.in-Point.is at h))
