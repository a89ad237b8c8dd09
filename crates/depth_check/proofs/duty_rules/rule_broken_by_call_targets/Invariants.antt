use Rattle.std.specs.Prelude.{IfSome}
use Rattle.depth_check.specs.CheckedRegisters.{CallHolds}
use Rattle.std.proofs.Common.{take}
use Rattle.vd_transfer.specs.Changes.{state_after}
use Rattle.depth_check.specs.LeastBroken.{FindsLeastBroken}
use Rattle.depth_check.specs.DutiesHold.{DutiesHold}
use Rattle.depth_check.proofs.DutyLaws.{duties_of_entry_to, called}
use Rattle.depth_check.proofs.duty_rules.rule_broken_by_call_targets.Given as goal

abbrev pub invariant-loop-t : goal.invariant-loop-t
invariant-loop-t l = record {
  found : FindsLeastBroken (DutiesHold l.at.cert l.at.node l.at.point.state (duties_of_entry_to 5 (l.at.node).key (called (state_after l.at.point.state l.entry) l.targets l.back) (take l.t-index l.targets))) l.found;
  held : IfSome l.held (CallHolds l.at l.entry l.back);
}
