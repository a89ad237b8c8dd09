use Rattle.std.proofs.Common.{◌≡◌, take}
use Rattle.vd_transfer.specs.Changes.{state_after}
use Rattle.cfg_recover.specs.FlowDuties.{duties_of_irqs}
use Rattle.depth_maker.specs.VisitDuties.{JoinsDuties}
use Rattle.depth_maker.proofs.join_entries.join_each_handler_entry.Given as goal

abbrev pub invariant-loop-p : goal.invariant-loop-p
invariant-loop-p l = record {
  paid : JoinsDuties l.v l.initial.table l.table (duties_of_irqs l.v.ground.now.plan.now (state_after l.v.state.now l.fn.entry) (take l.p-index l.irqs));
  same : record l.entry { ccpn = 0 } ≡ record l.fn.entry { ccpn = 0 };
}
