use Rattle.std.proofs.Common.{sym, subst, ap}
use Rattle.value_domain.specs.State.{AreWellFormed}
use Rattle.vd_transfer.specs.declared.change.Change.{Change}
use Rattle.vd_transfer.specs.Changes.{state_after}
use Rattle.depth_check.proofs.DutyLaws.{interrupts_more, interrupts_done}
use Rattle.depth_check.proofs.duty_rules.rule_broken_by_irqs.Goals as goal

pub rule_broken_by_entry-one-requires-clause-entry : goal.rule_broken_by_entry-one-requires-clause-entry
rule_broken_by_entry-one-requires-clause-entry c =
    subst (λ (e : Change). AreWellFormed (state_after c.args.at.now.point.state e).regs) (sym c.loop-p.invariant.same) c.requires

pub loop-p-preserved : goal.loop-p-preserved
loop-p-preserved c = record {
  found =
      interrupts_more c.args.at.now.cert c.args.at.now.node c.args.at.now.point.state c.args.at.now.plan (state_after c.args.at.now.point.state c.args.entry) (state_after c.args.at.now.point.state c.loop-p.entry) c.irq_key.result c.args.irqs.now c.loop-p.p-index c.loop-p.found
      c.rule_broken_by_entry-one.result c.lesser_broken_rule-found.result
      c.loop-p-test.true (rw (← c.at.view_is) c.irq_key.ensures) (ap (λ (e : Change). state_after c.args.at.now.point.state e) c.loop-p.invariant.same) c.lesser_broken_rule-found.ensures c.loop-p.invariant.found c.rule_broken_by_entry-one.ensures;
  same = c.loop-p.invariant.same;
}

pub returns : goal.returns
returns c = interrupts_done c.args.at.now.cert c.args.at.now.node c.args.at.now.point.state c.args.at.now.plan (state_after c.args.at.now.point.state c.args.entry) c.args.irqs.now c.loop-p.p-index c.loop-p.found c.loop-p-test.false c.loop-p.invariant.found
