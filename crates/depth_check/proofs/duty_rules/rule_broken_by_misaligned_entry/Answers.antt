use Rattle.std.proofs.Common.{◌≡◌, ◌∙◌, ◌∷◌, [], ap, subst}
use Rattle.value_domain.specs.declared.states.State.{State}
use Rattle.depth_cert.specs.declared.keys.Key.{Key}
use Rattle.depth_cert.specs.Nodes.{NodeData}
use Rattle.cfg_recover.specs.Entries.{aln_key, aln_entry}
use Rattle.cfg_recover.specs.Duties.{owed, enter}
use Rattle.depth_check.specs.LeastBroken.{FindsLeastBrokenByDuties}
use Rattle.depth_check.specs.PointChecks.{point_check_data}
use Rattle.depth_check.proofs.RuleLaws.{values_well}
use Rattle.depth_check.proofs.duty_rules.rule_broken_by_misaligned_entry.Goals as goal

pub rule_broken_by_entry-requires-clause-entry : goal.rule_broken_by_entry-requires-clause-entry
rule_broken_by_entry-requires-clause-entry c = rw (← c.at.view_is) (values_well c.at.inside.bounds.now _ c.aln_entry_change-entry.ensures.values)

pub returns : goal.returns
returns c =
    let t = point_check_data c.at.inside in
    let same = ap (λ (n : NodeData). n.key) c.node.view_is in
    let key : c.aln_key-key.result ≡ aln_key t.plan (t.node).key = c.aln_key-key.ensures ∙ ap (λ (k : Key). aln_key t.plan k) same in
    rw (← c.at.view_is)
    (subst (λ (k : Key). FindsLeastBrokenByDuties t (owed 10 (enter k (aln_entry t.plan (t.node).key t.point.state)) ∷ []) c.rule_broken_by_entry.result) key
    (subst (λ (u : State). FindsLeastBrokenByDuties t (owed 10 (enter c.aln_key-key.result u) ∷ []) c.rule_broken_by_entry.result) (c.aln_entry_change-entry.ensures.entry ∙ ap (λ (k : Key). aln_entry t.plan k t.point.state) same)
    (rw (← c.at.view_is) at c.rule_broken_by_entry.ensures)))
