use Rattle.std.proofs.Common.{◌≡◌, take}
use Rattle.vd_transfer.specs.Changes.{state_after}
use Rattle.cfg_recover.specs.FlowDuties.{duties_of_irqs}
use Rattle.depth_check.specs.LeastBroken.{FindsLeastBroken}
use Rattle.depth_check.specs.DutiesHold.{DutiesHold}
use Rattle.depth_check.proofs.duty_rules.rule_broken_by_irqs.Given as goal

abbrev pub invariant-loop-p : goal.invariant-loop-p
invariant-loop-p l = record {
  found : FindsLeastBroken (DutiesHold l.at.cert l.at.node l.at.point.state (duties_of_irqs l.at.plan (state_after l.at.point.state l.fn.entry) (take l.p-index l.irqs))) l.found;
  same : record l.entry { ccpn = 0 } ≡ record l.fn.entry { ccpn = 0 };
}
