use Rattle.std.proofs.Common.{List, take, subst, sym}
use Rattle.std.proofs.lemmas.List.{take_all, take_more}
use Rattle.depth_maker.specs.Recursing.{IsFirstRecursiveAddress}
use Rattle.frame_places.specs.declared.places.Spot.{Spot}
use Rattle.depth_maker.proofs.recursion.first_recursive_address.Goals as goal

pub loop-place-preserved : goal.loop-place-preserved
loop-place-preserved c =
    subst (λ (l : List Spot). IsFirstRecursiveAddress c.args.source.now c.args.marks.now c.args.key l c.in_ok-first.first) (sym (take_more c.args.points.now c.loop-place.place-index _ c.loop-place-test.true))
    (c.in_ok-first.ensures (take c.loop-place.place-index c.args.points.now) c.loop-place.invariant)

pub returns : goal.returns
returns c =
    subst (λ (l : List Spot). IsFirstRecursiveAddress c.args.source.now c.args.marks.now c.args.key l c.loop-place.first) (take_all c.loop-place.place-index c.args.points.now c.loop-place-test.false) c.loop-place.invariant
