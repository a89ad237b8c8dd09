use Rattle.std.proofs.Common.{take}
use Rattle.depth_maker.specs.Recursing.{IsFirstRecursiveAddress}
use Rattle.depth_maker.proofs.recursion.first_recursive_address.Given as goal

abbrev pub invariant-loop-place : goal.invariant-loop-place
invariant-loop-place l = IsFirstRecursiveAddress l.source l.marks l.key (take l.place-index l.points) l.first
