use Rattle.std.proofs.Common.{refl, ◌≡◌, inr, arith, true, false}
use Rattle.depth_maker.proofs.LevelSteps.{left_over, turns_more}
use Rattle.depth_maker.proofs.fixpoint.visit_listed_places.Goals as goal

pub loop-done-init : goal.loop-done-init
loop-done-init c = (c.requires.fine, c.requires.none, inr (refl, omega (arith, c.len-done-end.ensures.listed)), c.empty-cache.ensures c.args.ground.now.bounds.now)

pub loop-done-preserved : goal.loop-done-preserved
loop-done-preserved c =
    let h = rw c.if-not-branch.false at c.in_ok-visit_next_place.ensures.steps in (
      h.0,
      h.1,
      turns_more c.args.table.now c.loop-done.table c.visit_next_place.new.table c.loop-done._done _ c.loop-done.invariant.2 h.2,
      c.in_ok-visit_next_place.ensures.results,
    )

pub visit_next_place-requires-clause-fine : goal.visit_next_place-requires-clause-fine
visit_next_place-requires-clause-fine c = c.loop-done.invariant.0

pub visit_next_place-requires-clause-none : goal.visit_next_place-requires-clause-none
visit_next_place-requires-clause-none c = c.loop-done.invariant.1

pub returns-then-not-branch : goal.returns-then-not-branch
returns-then-not-branch c =
    let h = rw c.if-not-branch.true at c.in_ok-visit_next_place.ensures.steps in
    (h.0, h.1, (λ e. absurd (let no : false ≡ true = e in cc)), (λ e. h.3))

pub returns : goal.returns
returns c =
    let h =
    left_over c.args.table.now c.loop-done.table c.loop-done._done _ c.is_empty.result c.loop-done-test.false c.loop-done.invariant.2
    c.is_empty.ensures in
    (c.loop-done.invariant.0, c.loop-done.invariant.1, h.0, h.1)
