use Rattle.std.proofs.Common.{subst}
use Rattle.depth_maker.specs.Recursing.{IsFirstRecursion}
use Rattle.depth_maker.proofs.MakeLemmas.{recursion_refuses, need_refuses}
use Rattle.depth_maker.proofs.needs.need_refusal.Goals as goal

pub returns-in-Some : goal.returns-in-Some
returns-in-Some c =
    recursion_refuses c.args.source.now c.in-Some.key c.in-Some.addr c.requires.source (subst (IsFirstRecursion c.args.source.now) c.in-Some.is c.requires.place)

pub returns-in-None : goal.returns-in-None
returns-in-None c =
    need_refuses c.args.source.now c.start_key-key.result c.start_key-key.ensures c.requires.source (subst (IsFirstRecursion c.args.source.now) c.in-None.is c.requires.place) c.requires.none
