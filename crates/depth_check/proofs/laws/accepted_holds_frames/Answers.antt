use Rattle.depth_check.proofs.Held as held
use Rattle.depth_check.proofs.laws.accepted_holds_frames.Goals as goal

pub returns-clause-frames : goal.returns-clause-frames
returns-clause-frames c = held.frames_are_held

pub returns-clause-edges : goal.returns-clause-edges
returns-clause-edges c = held.edges_are_owed
