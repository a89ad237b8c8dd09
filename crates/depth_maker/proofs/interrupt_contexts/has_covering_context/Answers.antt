use Rattle.std.proofs.Common.{subst, arith}
use Rattle.depth_maker.specs.InterruptHandlers.{IsContextCovered}
use Rattle.depth_maker.specs.TableView.{view_of_table}
use Rattle.depth_maker.proofs.NotedInterrupts.{duties_already}
use Rattle.depth_maker.proofs.interrupt_contexts.has_covering_context.Goals as goal

pub covers-requires-clause-own : goal.covers-requires-clause-own
covers-requires-clause-own c =
    let g = c.args.v.now.ground.now in
    (subst (IsContextCovered g.bounds.now g.plan.now (view_of_table c.args.table.now).cells) c.in-Some.is c.requires.fine.covered.0.0).stack.well

pub covers-requires-clause-other : goal.covers-requires-clause-other
covers-requires-clause-other c = (c.requires.well_formed.values 22 (omega (arith, c.requires.well_formed.regs))).well

pub covers-requires-in-Some-before-clause-own : goal.covers-requires-in-Some-before-clause-own
covers-requires-in-Some-before-clause-own c =
    let g = c.args.v.now.ground.now in
    (subst (IsContextCovered g.bounds.now g.plan.now (view_of_table c.args.table.now).cells) c.in-Some-before.is c.requires.fine.covered.0.1).stack.well

pub covers-requires-in-Some-before-clause-other : goal.covers-requires-in-Some-before-clause-other
covers-requires-in-Some-before-clause-other c = (c.requires.well_formed.values 22 (omega (arith, c.requires.well_formed.regs))).well

pub returns-then-covers : goal.returns-then-covers
returns-then-covers c told =
    let v = c.args.v.now in
    let g = v.ground.now in
    duties_already _ _ _ v.key v.addr v.state.now c.args.table.now c.in-Some.last c.requires.fine
    (subst (IsContextCovered g.bounds.now g.plan.now (view_of_table c.args.table.now).cells) c.in-Some.is c.requires.fine.covered.0.0) (c.covers.ensures c.if-covers.true)

pub returns-in-Some-before : goal.returns-in-Some-before
returns-in-Some-before c told =
    let v = c.args.v.now in
    let g = v.ground.now in
    duties_already _ _ _ v.key v.addr v.state.now c.args.table.now c.in-Some-before.before c.requires.fine
    (subst (IsContextCovered g.bounds.now g.plan.now (view_of_table c.args.table.now).cells) c.in-Some-before.is c.requires.fine.covered.0.1) (c.covers-in-Some-before.ensures told)
