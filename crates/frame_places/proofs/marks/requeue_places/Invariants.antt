use Rattle.std.proofs.Common.{take, Contains}
use Rattle.frame_places.specs.Marks.{AreQueuedPlacesListed, RequeuesPlaces}
use Rattle.frame_places.specs.Work.{all_work}
use Rattle.frame_places.proofs.marks.requeue_places.Given as goal

abbrev pub invariant-loop-x : goal.invariant-loop-x
invariant-loop-x g l = AreQueuedPlacesListed l.places (all_work l.work) × RequeuesPlaces l.initial.places l.places (Contains (take l.x-index l.readers))
