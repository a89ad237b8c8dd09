use Rattle.std.proofs.Common.{ap, ◌∙◌, get_or}
use Rattle.vd_transfer.specs.Changes.{state_after}
use Rattle.depth_cert.specs.declared.keys.Key.{Key}
use Rattle.depth_cert.specs.Nodes.{NodeData}
use Rattle.cfg_recover.specs.Entries.{entered_key}
use Rattle.depth_check.proofs.DutyLaws.{called, entries_more, entries_done}
use Rattle.depth_check.proofs.duty_rules.rule_broken_by_call_targets.Goals as goal

pub loop-t-preserved : goal.loop-t-preserved
loop-t-preserved c = record {
  found =
      entries_more c.args.at.now.cert c.args.at.now.node c.args.at.now.point.state 5 (c.args.at.now.node).key c.entered_key-key.result (called (state_after c.args.at.now.point.state c.args.entry.now) c.args.targets.now c.args.back) c.args.targets.now c.loop-t.t-index
      c.loop-t.found c.rule_broken_by_called_node-one.result c.lesser_broken_rule-found.result c.loop-t-test.true
      (rw (← c.at.view_is) (c.entered_key-key.ensures ∙ ap (λ (k : Key). entered_key k 1 (get_or c.args.targets.now c.loop-t.t-index 0)) (ap (λ (n : NodeData). n.key) c.node.view_is)))
      c.lesser_broken_rule-found.ensures c.loop-t.invariant.found c.rule_broken_by_called_node-one.ensures.found;
  held = c.rule_broken_by_called_node-one.ensures.held;
}

pub returns : goal.returns
returns c =
    entries_done c.args.at.now.cert c.args.at.now.node c.args.at.now.point.state 5 (c.args.at.now.node).key (called (state_after c.args.at.now.point.state c.args.entry.now) c.args.targets.now c.args.back) c.args.targets.now c.loop-t.t-index c.loop-t.found
    c.loop-t-test.false c.loop-t.invariant.found

pub rule_broken_by_called_node-one-requires-clause-kind : goal.rule_broken_by_called_node-one-requires-clause-kind
rule_broken_by_called_node-one-requires-clause-kind c = ap (λ (k : Key). k.kind) c.entered_key-key.ensures
