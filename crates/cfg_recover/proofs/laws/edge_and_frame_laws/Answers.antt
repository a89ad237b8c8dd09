use Rattle.cfg_recover.proofs.FrameLaws.{edges_are, frames_are, held_frames_say, owed_edges_say}
use Rattle.cfg_recover.proofs.laws.edge_and_frame_laws.Goals as goal

pub returns-clause-edges : goal.returns-clause-edges
returns-clause-edges c = edges_are

pub returns-clause-frames : goal.returns-clause-frames
returns-clause-frames c = frames_are

pub returns-clause-held : goal.returns-clause-held
returns-clause-held c = held_frames_say

pub returns-clause-owed : goal.returns-clause-owed
returns-clause-owed c = owed_edges_say
