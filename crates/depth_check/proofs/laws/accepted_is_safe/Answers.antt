use Rattle.depth_check.proofs.Sound as sound
use Rattle.depth_check.proofs.laws.accepted_is_safe.Goals as goal

pub returns : goal.returns
returns c = sound.accepted_is_safe
