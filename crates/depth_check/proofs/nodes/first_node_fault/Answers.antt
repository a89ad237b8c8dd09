use Rattle.std.proofs.Common.{Some, ◌^◌, ◌<◌, ◌≡◌, ◌++◌, ◌∷◌, [], ◌∙◌, length, sym, ap, subst, refl, arith, List, ℕ}
use Rattle.std.specs.Prelude.{IsTrue, ◌↔◌, All}
use Rattle.std.proofs.lemmas.List.Elements.{All-nil, All-push}
use Rattle.std.proofs.lemmas.Bool.{ltb-true}
use Rattle.std.proofs.lemmas.List.{append-nil}
use Rattle.value_domain.specs.Limits.{Limits}
use Rattle.depth_cert.specs.declared.points.Point.{Point}
use Rattle.depth_cert.specs.Nodes.{NodeData}
use Rattle.cfg_recover.specs.RulesHoldOrFail.{limits_of_cert, EntryRuleHolds, RuleHolds}
use Rattle.value_domain.specs.State.{AreInLattice}
use Rattle.depth_check.specs.declared.nodes.Fault.{Fault}
use Rattle.depth_check.specs.NodeFaults.{IsFirstNodeFault, earlier_node_fault}
use Rattle.depth_check.proofs.InterruptLaws.{interrupts_at, stack_well, stacks_well}
use Rattle.depth_check.proofs.CallLaws.{HoldsNext, next_holds, holds_next}
use Rattle.depth_check.proofs.Deciding.{refuted}
use Rattle.depth_check.proofs.RepeatLaws.{walk_facts, known_values}
use Rattle.depth_check.proofs.RuleLaws.{values_broken}
use Rattle.depth_check.proofs.NodeLaws.{fault_at, none_at, broken_at, entry_alone}
use Rattle.packed_cert.proofs.WalkedPoints.{split_more}
use Rattle.depth_check.proofs.WalkLaws.{stands_behind}
use Rattle.depth_check.proofs.nodes.first_node_fault.Goals as goal

pub has_values_in_lattice-requires : goal.has_values_in_lattice-requires
has_values_in_lattice-requires c =
    rw (c.point_of_walk-here.ensures.state, c.requires.limits)
    (λ known.
    let k = c.point_of_walk-here.ensures.known known in
    known_values (limits_of_cert c.args.plan.now c.args.cert.now) (c.loop-addr.scratch.walk).current c.advance.new.self c.in-Some.ensures.1 (c.loop-addr.invariant.known (ltb-true 0 c.loop-addr.next k.0))
    (subst (λ (l : Limits). AreInLattice l c.advance.new.self.anew) c.requires.limits k.1))

pub returns-then-not-has_values_in_lattice-clause-fault : goal.returns-then-not-has_values_in_lattice-clause-fault
returns-then-not-has_values_in_lattice-clause-fault c =
    let inv = c.loop-addr.invariant in
    let points = c.args.node.now.points in
    let p : Point = record { addr = c.in-Some.addr; state = c.advance.new.self.current } in
    let split : points ≡ inv.done ++ (p ∷ c.advance.new.self.left) = inv.split ∙ ap (λ (l : List Point). inv.done ++ l) c.in-Some.ensures.0 in
    let b = stands_behind points inv.done c.advance.new.self.left p split in
    broken_at c.args.image.now c.args.plan.now c.args.cert.now c.args.node.now c.requires.member points refl c.start_walk.ensures.rising (length inv.done) p c.entry_rule_holds-good.result 2 c.earlier_node_fault.result b.within b.here
    (subst (λ (l : List Point). All (λ (q : Point). (r : ℕ) → RuleHolds c.args.image.now c.args.plan.now c.args.cert.now c.args.node.now q r) l) (sym b.before) inv.all)
    (values_broken c.args.image.now c.args.plan.now c.args.cert.now c.args.node.now p c.args.b.now c.requires.limits (refuted c.has_values_in_lattice.result _ c.if-not-has_values_in_lattice.true (rw c.point_of_walk-here.ensures.state at c.has_values_in_lattice.ensures)))
    c.point_address_fits_word.ensures
    (subst (λ (n : NodeData). (n.key).entry < 2 ^ 32) c.node.view_is (omega arith))
    (subst (λ (l : Limits). IsTrue c.entry_rule_holds-good.result ↔ EntryRuleHolds l c.args.node.now) c.requires.limits c.entry_rule_holds-good.ensures)
    (ap (λ (n : NodeData). earlier_node_fault c.entry_rule_holds-good.result (n.key).entry c.in-Some.addr (Some 2)) (sym c.node.view_is) ∙ sym c.earlier_node_fault.ensures)

pub returns-in-Some-earlier_node_fault-clause-fault : goal.returns-in-Some-earlier_node_fault-clause-fault
returns-in-Some-earlier_node_fault-clause-fault c =
    let inv = c.loop-addr.invariant in
    let points = c.args.node.now.points in
    let p : Point = record { addr = c.in-Some.addr; state = c.advance.new.self.current } in
    let split : points ≡ inv.done ++ (p ∷ c.advance.new.self.left) = inv.split ∙ ap (λ (l : List Point). inv.done ++ l) c.in-Some.ensures.0 in
    let b = stands_behind points inv.done c.advance.new.self.left p split in
    let finds = rw (c.with_hint-hinted.ensures, c.point_of_walk-here.ensures.addr, c.point_of_walk-here.ensures.state) at c.rule_broken_at-found.ensures.found in
    fault_at c.args.image.now c.args.plan.now c.args.cert.now c.args.node.now c.requires.member points refl c.start_walk.ensures.rising (length inv.done) p c.entry_rule_holds-good.result c.rule_broken_at-found.result c.in-Some-earlier_node_fault.fault b.within b.here
    (subst (λ (l : List Point). All (λ (q : Point). (r : ℕ) → RuleHolds c.args.image.now c.args.plan.now c.args.cert.now c.args.node.now q r) l) (sym b.before) inv.all)
    finds c.point_address_fits_word.ensures
    (subst (λ (n : NodeData). (n.key).entry < 2 ^ 32) c.node.view_is (omega arith))
    (subst (λ (l : Limits). IsTrue c.entry_rule_holds-good.result ↔ EntryRuleHolds l c.args.node.now) c.requires.limits c.entry_rule_holds-good.ensures)
    (ap (λ (n : NodeData). earlier_node_fault c.entry_rule_holds-good.result (n.key).entry c.in-Some.addr c.rule_broken_at-found.result) (sym c.node.view_is) ∙ sym c.earlier_node_fault-in-Some.ensures ∙ c.in-Some-earlier_node_fault.is)

pub point_of_walk-here-requires-clause-stacks : goal.point_of_walk-here-requires-clause-stacks
point_of_walk-here-requires-clause-stacks c = stacks_well c.args.plan.now c.args.cert.now c.loop-addr.scratch.interrupts c.loop-addr.invariant.interrupts

pub point_of_walk-here-requires-clause-stack : goal.point_of_walk-here-requires-clause-stack
point_of_walk-here-requires-clause-stack c =
    let p : Point = record { addr = c.in-Some.addr; state = c.advance.new.self.current } in
    stack_well c.args.node.now c.loop-addr.invariant.done c.loop-addr.scratch.walk.left c.advance.new.self.left p c.requires.points c.loop-addr.invariant.split c.in-Some.ensures.0

pub invariant_of-at : goal.invariant_of-at
invariant_of-at c =
    let inv = c.loop-addr.invariant in
    let p : Point = record { addr = c.in-Some.addr; state = c.advance.new.self.current } in
    rw c.with_hint-hinted.ensures
    (record {
      limits = c.requires.limits;
      values = c.has_values_in_lattice.ensures.0 c.if-not-has_values_in_lattice.false;
      facts =
          walk_facts c.args.plan.now c.args.cert.now c.args.node.now inv.done c.loop-addr.scratch.walk.left c.advance.new.self p c.point_of_walk-here.result c.start_walk.ensures.rising (c.in-Some.ensures.2 ∙ inv.points) inv.split c.in-Some.ensures.0
          c.point_of_walk-here.ensures.state (λ again. c.point_of_walk-here.ensures.again again c.args.plan.now c.args.cert.now inv.interrupts) c.point_of_walk-here.ensures.next c.point_of_walk-here.ensures.walk;
    })

pub rule_broken_at-found-requires-clause-registers : goal.rule_broken_at-found-requires-clause-registers
rule_broken_at-found-requires-clause-registers c =
    let p : Point = record { addr = c.in-Some.addr; state = c.advance.new.self.current } in
    rw (c.with_hint-hinted.ensures, c.point_of_walk-here.ensures.state)
    (next_holds c.args.plan.now c.args.cert.now c.args.node.now c.loop-addr.scratch.walk.left c.advance.new.self.left p c.advance.new.self.current c.loop-addr.scratch.point.registers c.loop-addr.invariant.registers c.in-Some.ensures.0 refl)

pub loop-addr-init : goal.loop-addr-init
loop-addr-init c = record {
  done = [];
  split = sym c.start_walk.ensures.all;
  points = c.start_walk.ensures.points;
  all = All-nil (λ (q : Point). (r : ℕ) → RuleHolds c.args.image.now c.args.plan.now c.args.cert.now c.args.node.now q r);
  known = λ t. absurd (omega (arith, t));
  interrupts = c.requires.interrupts;
  results = c.requires.results;
  registers = λ p after e. record { called = tt; jumped = tt };
}

pub loop-addr-preserved : goal.loop-addr-preserved
loop-addr-preserved c =
    let inv = c.loop-addr.invariant in
    let points = c.args.node.now.points in
    let p : Point = record { addr = c.in-Some.addr; state = c.advance.new.self.current } in
    let finds = rw (c.with_hint-hinted.ensures, c.point_of_walk-here.ensures.addr, c.point_of_walk-here.ensures.state) at c.rule_broken_at-found.ensures.found in
    let told = ap (λ (n : NodeData). earlier_node_fault c.entry_rule_holds-good.result (n.key).entry c.in-Some.addr c.rule_broken_at-found.result) (sym c.node.view_is) ∙ sym c.earlier_node_fault-in-Some.ensures ∙ c.in_default-earlier_node_fault.is in
    let holds = none_at c.args.image.now c.args.plan.now c.args.cert.now c.args.node.now c.requires.member points refl c.start_walk.ensures.rising p c.entry_rule_holds-good.result c.rule_broken_at-found.result told finds in
    let registers : HoldsNext c.args.plan.now c.args.cert.now c.args.node.now c.advance.new.self.left c.kept_if_same_state-scratch.result =
    rw c.kept_if_same_state-scratch.ensures
    (holds_next c.args.plan.now c.args.cert.now c.args.node.now c.advance.new.self c.advance.new.self.current c.point_of_walk-here.result.next c.rule_broken_at-found.new.scratch.registers refl c.point_of_walk-here.ensures.next
    (rw (c.with_hint-hinted.ensures, c.point_of_walk-here.ensures.state) at c.rule_broken_at-found.ensures.registers)) in
    record {
      done = inv.done ++ p ∷ [];
      split = split_more points inv.done c.loop-addr.scratch.walk.left c.advance.new.self.left p inv.split c.in-Some.ensures.0;
      points = c.in-Some.ensures.2 ∙ inv.points;
      all = All-push (λ (q : Point). (r : ℕ) → RuleHolds c.args.image.now c.args.plan.now c.args.cert.now c.args.node.now q r) inv.done p inv.all holds;
      known = λ t. (holds 2).values refl;
      interrupts = inv.interrupts;
      results = c.rule_broken_at-found.ensures.results;
      registers = registers;
    }

pub keep_context-requires-clause-holds : goal.keep_context-requires-clause-holds
keep_context-requires-clause-holds c =
    let inv = c.loop-addr.invariant in
    let points = c.args.node.now.points in
    let p : Point = record { addr = c.in-Some.addr; state = c.advance.new.self.current } in
    let finds = rw (c.with_hint-hinted.ensures, c.point_of_walk-here.ensures.addr, c.point_of_walk-here.ensures.state) at c.rule_broken_at-found.ensures.found in
    let told = ap (λ (n : NodeData). earlier_node_fault c.entry_rule_holds-good.result (n.key).entry c.in-Some.addr c.rule_broken_at-found.result) (sym c.node.view_is) ∙ sym c.earlier_node_fault-in-Some.ensures ∙ c.in_default-earlier_node_fault.is in
    let holds = none_at c.args.image.now c.args.plan.now c.args.cert.now c.args.node.now c.requires.member points refl c.start_walk.ensures.rising p c.entry_rule_holds-good.result c.rule_broken_at-found.result told finds in
    rw (c.with_hint-hinted.ensures, c.point_of_walk-here.ensures.state) (interrupts_at c.args.image.now c.args.plan.now c.args.cert.now c.args.node.now p holds)

pub loop-addr-preserved-then-is_checked : goal.loop-addr-preserved-then-is_checked
loop-addr-preserved-then-is_checked c =
    let inv = c.loop-addr.invariant in
    let points = c.args.node.now.points in
    let p : Point = record { addr = c.in-Some.addr; state = c.advance.new.self.current } in
    let finds = rw (c.with_hint-hinted.ensures, c.point_of_walk-here.ensures.addr, c.point_of_walk-here.ensures.state) at c.rule_broken_at-found.ensures.found in
    let told = ap (λ (n : NodeData). earlier_node_fault c.entry_rule_holds-good.result (n.key).entry c.in-Some.addr c.rule_broken_at-found.result) (sym c.node.view_is) ∙ sym c.earlier_node_fault-in-Some.ensures ∙ c.in_default-earlier_node_fault.is in
    let holds = none_at c.args.image.now c.args.plan.now c.args.cert.now c.args.node.now c.requires.member points refl c.start_walk.ensures.rising p c.entry_rule_holds-good.result c.rule_broken_at-found.result told finds in
    let registers : HoldsNext c.args.plan.now c.args.cert.now c.args.node.now c.advance.new.self.left c.kept_if_same_state-scratch.result =
    rw c.kept_if_same_state-scratch.ensures
    (holds_next c.args.plan.now c.args.cert.now c.args.node.now c.advance.new.self c.advance.new.self.current c.point_of_walk-here.result.next c.rule_broken_at-found.new.scratch.registers refl c.point_of_walk-here.ensures.next
    (rw (c.with_hint-hinted.ensures, c.point_of_walk-here.ensures.state) at c.rule_broken_at-found.ensures.registers)) in
    record {
      done = inv.done ++ p ∷ [];
      split = split_more points inv.done c.loop-addr.scratch.walk.left c.advance.new.self.left p inv.split c.in-Some.ensures.0;
      points = c.in-Some.ensures.2 ∙ inv.points;
      all = All-push (λ (q : Point). (r : ℕ) → RuleHolds c.args.image.now c.args.plan.now c.args.cert.now c.args.node.now q r) inv.done p inv.all holds;
      known = λ t. (holds 2).values refl;
      interrupts = c.keep_context.ensures;
      results = c.rule_broken_at-found.ensures.results;
      registers = registers;
    }

pub returns-else-good-clause-fault : goal.returns-else-good-clause-fault
returns-else-good-clause-fault c =
    let inv = c.loop-addr.invariant in
    let points = c.args.node.now.points in
    let whole : points ≡ inv.done = inv.split ∙ ap (λ (l : List Point). inv.done ++ l) c.in_default.ensures.0 ∙ append-nil inv.done in
    subst (λ (f : Fault). IsFirstNodeFault c.args.image.now c.args.plan.now c.args.cert.now c.args.node.now f.rule f.addr) (sym c.node_entry_fault.ensures)
    (subst (λ (n : NodeData). IsFirstNodeFault c.args.image.now c.args.plan.now c.args.cert.now c.args.node.now 2 (n.key).entry) (sym c.node.view_is)
    (entry_alone c.args.image.now c.args.plan.now c.args.cert.now c.args.node.now c.requires.member points refl c.start_walk.ensures.rising
    (subst (λ (l : List Point). All (λ (q : Point). (r : ℕ) → RuleHolds c.args.image.now c.args.plan.now c.args.cert.now c.args.node.now q r) l) (sym whole) inv.all)
    (refuted _ _ c.if-good.false (subst (λ (l : Limits). IsTrue c.entry_rule_holds-good.result ↔ EntryRuleHolds l c.args.node.now) c.requires.limits c.entry_rule_holds-good.ensures))
    (subst (λ (n : NodeData). (n.key).entry < 2 ^ 32) c.node.view_is (omega arith))))
