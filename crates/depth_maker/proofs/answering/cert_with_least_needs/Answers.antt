use Rattle.std.proofs.Common.{subst, sym}
use Rattle.depth_maker.specs.Needs.{IsLeastNeedsOrRecursion, AreLeastTableNeeds}
use Rattle.depth_maker.proofs.MakeLemmas.{needs_are}
use Rattle.depth_maker.proofs.answering.cert_with_least_needs.Goals as goal

pub serialize_cert-requires-clause-needs : goal.serialize_cert-requires-clause-needs
serialize_cert-requires-clause-needs c =
    let found = subst (IsLeastNeedsOrRecursion c.args.source.now) c.in-Ok.is c.in_ok-needs.ensures in
    subst (AreLeastTableNeeds c.args.source.now) (sym c.as_slice.ensures.value) (needs_are c.args.source.now c.in-Ok.needs found)

pub need_refusal-requires-clause-none : goal.need_refusal-requires-clause-none
need_refusal-requires-clause-none c = (subst (IsLeastNeedsOrRecursion c.args.source.now) c.in-Err.is c.in_ok-needs.ensures).0

pub need_refusal-requires-clause-place : goal.need_refusal-requires-clause-place
need_refusal-requires-clause-place c = (subst (IsLeastNeedsOrRecursion c.args.source.now) c.in-Err.is c.in_ok-needs.ensures).1
