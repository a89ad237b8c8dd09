use Rattle.std.proofs.Common.{subst, refl, List}
use Rattle.std.proofs.lemmas.List.{take_all}
use Rattle.depth_cert.specs.declared.keys.Key.{Key}
use Rattle.frame_places.specs.Numbers.{AreFrameNumbers}
use Rattle.frame_places.proofs.NumberLemmas.{numbers_none, numbers_more}
use Rattle.frame_places.proofs.numbers.frame_number_map.Goals as goal

pub loop-i-init : goal.loop-i-init
loop-i-init c = numbers_none _ c.args.frames.now

pub loop-i-preserved : goal.loop-i-preserved
loop-i-preserved c =
    numbers_more c.loop-i.numbers _ c.args.frames.now c.loop-i.i _ _ c.loop-i-test.true c.requires refl (λ q. c.in_ok-insert.ensures.updates.0 q) c.loop-i.invariant

pub returns : goal.returns
returns c = subst (λ (l : List Key). AreFrameNumbers c.loop-i.numbers c.args.frames.now l) (take_all c.loop-i.i c.args.frames.now c.loop-i-test.false) c.loop-i.invariant
