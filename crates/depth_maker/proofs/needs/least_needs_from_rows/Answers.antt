use Rattle.std.proofs.Common.{subst, ap, ℕ, List, length, Option, arith}
use Rattle.std.specs.declared.alloc.Global.{Global}
use Rattle.std.specs.declared.vec.Vec.{Vec}
use Rattle.depth_maker.specs.Needs.{AreLeastNeedsOrTooMany}
use Rattle.depth_maker.specs.Recursing.{IsFirstRecursion}
use Rattle.depth_cert.specs.declared.keys.Key.{Key}
use Rattle.depth_maker.proofs.CountedLemmas.{few_spots}
use Rattle.depth_maker.proofs.NeedSteps.{recursion_above, source_within, source_needs}
use Rattle.depth_maker.proofs.needs.least_needs_from_rows.Goals as goal

pub least_needs-requires-clause-nodes : goal.least_needs-requires-clause-nodes
least_needs-requires-clause-nodes c =
    let h = (few_spots _ _ (((c.requires.source).done).counted).few).1 in
    let e = ap (λ (l : List Key). length l) c.requires.frames in
    omega (arith, h, e)

pub least_needs-requires-clause-within : goal.least_needs-requires-clause-within
least_needs-requires-clause-within c = source_within c.args.source.now c.args.frames.now c.args.rows.now c.requires.source c.requires.frames c.requires.rows

pub returns-in-Some-needs : goal.returns-in-Some-needs
returns-in-Some-needs c =
    subst (λ (o : Option (Vec ℕ Global)). AreLeastNeedsOrTooMany c.args.source.now o) c.in-Some-needs.is
    (source_needs c.args.source.now c.args.frames.now c.args.rows.now c.need_limit-cap.result c.requires.source c.requires.frames c.requires.rows c.need_limit-cap.ensures.areas c.in_ok-needs.needs c.in_ok-needs.ensures)

pub returns-in-None : goal.returns-in-None
returns-in-None c =
    let h = source_needs c.args.source.now c.args.frames.now c.args.rows.now c.need_limit-cap.result c.requires.source c.requires.frames c.requires.rows c.need_limit-cap.ensures.areas c.in_ok-needs.needs c.in_ok-needs.ensures in
    (subst (λ (o : Option (Vec ℕ Global)). AreLeastNeedsOrTooMany c.args.source.now o) c.in-None.is h, c.requires.recurs)

pub returns-in-Some : goal.returns-in-Some
returns-in-Some c =
    let recurs = subst (IsFirstRecursion c.args.source.now) c.in-Some.is c.requires.recurs in
    (recursion_above c.args.source.now c.in-Some.place recurs, recurs)
