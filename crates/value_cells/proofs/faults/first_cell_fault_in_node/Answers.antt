use Rattle.std.proofs.Common.{◌++◌, ◌∷◌, [], Contains, sym, subst}
use Rattle.std.proofs.lemmas.List.Elements.{All-contains, All-push, All-same}
use Rattle.value_domain.specs.State.{AreInLattice}
use Rattle.value_domain.specs.declared.states.State.{State}
use Rattle.depth_cert.specs.declared.points.Point.{Point}
use Rattle.value_cells.specs.Keeping.{PointKeepsCellBounds}
use Rattle.cfg_recover.proofs.FirstFault.{broken}
use Rattle.value_cells.proofs.FaultLaws.{walked_breaks}
use Rattle.packed_cert.proofs.WalkedPoints.{split_again, split_more, walked, walked_all}
use Rattle.value_cells.proofs.faults.first_cell_fault_in_node.Goals as goal

pub keeps_rule_16-requires-clause-values : goal.keeps_rule_16-requires-clause-values
keeps_rule_16-requires-clause-values c =
    let r = c.args.rule.now in
    let points = (c.args.node.now).points in
    let p : Point = record { addr = c.in-Some.addr; state = c.advance.new.self.current } in
    let there : Contains points p = walked points c.loop-addr.invariant.done (c.loop-addr.walk).left c.advance.new.self.left p c.loop-addr.invariant.split c.in-Some.ensures.0 in
    subst (λ (s : State). AreInLattice r.bounds.now s.regs) (sym c.state.ensures) (All-contains (λ (q : Point). AreInLattice r.bounds.now (q.state).regs) points p c.requires.values there)

pub returns-then-not-keeps_rule_16-clause-some : goal.returns-then-not-keeps_rule_16-clause-some
returns-then-not-keeps_rule_16-clause-some c =
    let r = c.args.rule.now in
    let inv = c.loop-addr.invariant in
    let points = (c.args.node.now).points in
    let p : Point = record { addr = c.in-Some.addr; state = c.advance.new.self.current } in
    let fails = broken c.keeps_rule_16.result _ c.if-not-keeps_rule_16.true c.keeps_rule_16.ensures in
    walked_breaks r.bounds.now r.image.now r.plan.now r.cells.now c.args.node.now inv.done c.advance.new.self.left p c.start_walk.ensures.rising
    (split_again points inv.done (c.loop-addr.walk).left c.advance.new.self.left p inv.split c.in-Some.ensures.0) inv.keep
    (subst (λ (s : State). PointKeepsCellBounds r.bounds.now r.image.now r.plan.now r.cells.now (record { addr = c.in-Some.addr; state = s }) → ⊥) c.state.ensures fails)

pub loop-addr-preserved : goal.loop-addr-preserved
loop-addr-preserved c =
    let r = c.args.rule.now in
    let inv = c.loop-addr.invariant in
    let p : Point = record { addr = c.in-Some.addr; state = c.advance.new.self.current } in
    let keeps = subst (λ (s : State). PointKeepsCellBounds r.bounds.now r.image.now r.plan.now r.cells.now (record { addr = c.in-Some.addr; state = s })) c.state.ensures (c.keeps_rule_16.ensures.0 c.if-not-keeps_rule_16.false) in
    record {
      done = inv.done ++ p ∷ [];
      split = split_more (c.args.node.now).points inv.done (c.loop-addr.walk).left c.advance.new.self.left p inv.split c.in-Some.ensures.0;
      keep = All-push (PointKeepsCellBounds r.bounds.now r.image.now r.plan.now r.cells.now) inv.done p inv.keep keeps;
    }

pub returns-clause-none : goal.returns-clause-none
returns-clause-none c =
    let r = c.args.rule.now in
    let inv = c.loop-addr.invariant in
    All-same (PointKeepsCellBounds r.bounds.now r.image.now r.plan.now r.cells.now) (c.args.node.now).points inv.done (walked_all (c.args.node.now).points inv.done (c.loop-addr.walk).left inv.split c.in_default.ensures.0) inv.keep
