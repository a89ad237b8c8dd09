use Rattle.std.proofs.Common.{◌++◌, ◌∷◌, [], Contains, ap, sym, subst}
use Rattle.std.proofs.lemmas.List.Elements.{All-contains, All-push, All-same}
use Rattle.value_domain.specs.State.{AreInLattice}
use Rattle.value_domain.specs.declared.states.State.{State}
use Rattle.depth_cert.specs.declared.keys.Key.{Key}
use Rattle.depth_cert.specs.declared.points.Point.{Point}
use Rattle.depth_cert.specs.Nodes.{NodeData}
use Rattle.task_chains.specs.Rule17.{KeepsRule17AtPoint}
use Rattle.cfg_recover.proofs.FirstFault.{broken}
use Rattle.task_chains.proofs.FaultLaws.{walked_fails}
use Rattle.packed_cert.proofs.WalkedPoints.{split_again, split_more, walked, walked_all}
use Rattle.task_chains.proofs.faults.first_fault_in_node.Goals as goal

pub keeps_rule_17-requires : goal.keeps_rule_17-requires
keeps_rule_17-requires c =
    let r = c.args.rule.now in
    let points = (c.args.node.now).points in
    let p : Point = record { addr = c.in-Some.addr; state = c.advance.new.self.current } in
    let there : Contains points p = walked points c.loop-addr.invariant.done (c.loop-addr.walk).left c.advance.new.self.left p c.loop-addr.invariant.split c.in-Some.ensures.0 in
    subst (λ (s : State). AreInLattice r.bounds.now s.regs) (sym c.state.ensures) (All-contains (λ (q : Point). AreInLattice r.bounds.now (q.state).regs) points p c.requires there)

pub returns-then-not-keeps_rule_17-clause-some : goal.returns-then-not-keeps_rule_17-clause-some
returns-then-not-keeps_rule_17-clause-some c =
    let r = c.args.rule.now in
    let inv = c.loop-addr.invariant in
    let points = (c.args.node.now).points in
    let p : Point = record { addr = c.in-Some.addr; state = c.advance.new.self.current } in
    let fails = broken c.keeps_rule_17.result _ c.if-not-keeps_rule_17.true c.keeps_rule_17.ensures in
    walked_fails r.bounds.now r.view.now r.plan.now r.tasks.now c.args.node.now inv.done c.advance.new.self.left p c.start_walk.ensures.rising
    (split_again points inv.done (c.loop-addr.walk).left c.advance.new.self.left p inv.split c.in-Some.ensures.0) inv.hold
    (subst (λ (k : Key). KeepsRule17AtPoint r.bounds.now r.view.now r.plan.now r.tasks.now k p → ⊥) (ap (λ (n : NodeData). n.key) c.node.view_is)
    (subst (λ (s : State). KeepsRule17AtPoint r.bounds.now r.view.now r.plan.now r.tasks.now (c.node.inside).key (record { addr = c.in-Some.addr; state = s }) → ⊥) c.state.ensures fails))

pub loop-addr-preserved : goal.loop-addr-preserved
loop-addr-preserved c =
    let r = c.args.rule.now in
    let inv = c.loop-addr.invariant in
    let p : Point = record { addr = c.in-Some.addr; state = c.advance.new.self.current } in
    let holds =
    subst (λ (k : Key). KeepsRule17AtPoint r.bounds.now r.view.now r.plan.now r.tasks.now k p) (ap (λ (n : NodeData). n.key) c.node.view_is)
    (subst (λ (s : State). KeepsRule17AtPoint r.bounds.now r.view.now r.plan.now r.tasks.now (c.node.inside).key (record { addr = c.in-Some.addr; state = s })) c.state.ensures (c.keeps_rule_17.ensures.0 c.if-not-keeps_rule_17.false)) in
    record {
      done = inv.done ++ p ∷ [];
      split = split_more (c.args.node.now).points inv.done (c.loop-addr.walk).left c.advance.new.self.left p inv.split c.in-Some.ensures.0;
      hold = All-push (KeepsRule17AtPoint r.bounds.now r.view.now r.plan.now r.tasks.now (c.args.node.now).key) inv.done p inv.hold holds;
    }

pub returns-clause-none : goal.returns-clause-none
returns-clause-none c =
    let r = c.args.rule.now in
    let inv = c.loop-addr.invariant in
    All-same (KeepsRule17AtPoint r.bounds.now r.view.now r.plan.now r.tasks.now (c.args.node.now).key) (c.args.node.now).points inv.done (walked_all (c.args.node.now).points inv.done (c.loop-addr.walk).left inv.split c.in_default.ensures.0) inv.hold
