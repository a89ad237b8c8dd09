use Rattle.std.proofs.Common.{take}
use Rattle.frame_places.specs.Numbers.{AreFrameNumbers}
use Rattle.frame_places.proofs.numbers.frame_number_map.Given as goal

abbrev pub invariant-loop-i : goal.invariant-loop-i
invariant-loop-i l = AreFrameNumbers l.numbers l.frames (take l.i l.frames)
