use Rattle.std.proofs.Common.{◌-◌, length}
use Rattle.tcd_real.proofs.real.read_until_full.Given as goal

abbrev pub decreases-loop-filled : goal.decreases-loop-filled
decreases-loop-filled g l = length l.room - l.filled
