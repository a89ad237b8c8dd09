use Rattle.std.proofs.Common.{◌≡◌, List, take, Contains}
use Rattle.std.specs.Prelude.{map}
use Rattle.depth_cert.specs.declared.keys.Key.{Key}
use Rattle.frame_places.specs.Numbers.{AreFrameNumbers, frame_number_in}
use Rattle.frame_places.proofs.numbers.entered_frame_numbers.Given as goal

abbrev pub invariant-loop-key : goal.invariant-loop-key
invariant-loop-key l =
    (frames : List Key) → AreFrameNumbers l.numbers frames frames → ((k : Key) → Contains l.entered k → Contains frames k) → l.into.items ≡ map (frame_number_in frames) (take l.key-index l.entered)
