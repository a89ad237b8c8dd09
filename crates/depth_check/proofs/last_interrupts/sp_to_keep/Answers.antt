use Rattle.std.proofs.Common.{◌≡◌, ◌∙◌, Bool, List, [], arith, refl, sym, ap}
use Rattle.value_domain.specs.declared.values.Val.{Val}
use Rattle.arrayvec.specs.ArrayVec.{ArrayVec}
use Rattle.vd_transfer.specs.declared.change.Change.{Change}
use Rattle.vd_transfer.specs.Changes.{no_write, register_write}
use Rattle.cfg_recover.proofs.EntryChanges.{handler_values}
use Rattle.depth_check.proofs.RuleLaws.{values_well}
use Rattle.depth_check.proofs.InterruptLaws.{own_value, own_holds, entered_state, other_stack}
use Rattle.depth_check.proofs.last_interrupts.sp_to_keep.Goals as goal

pub returns-in_default-clause-holds : goal.returns-in_default-clause-holds
returns-in_default-clause-holds c =
    rw (← c.at.view_is) (own_holds c.at.inside.plan.now c.at.inside.cert.now c.at.inside.node.now c.at.inside.point.state.now c.at.inside.point.state.now c.index-s-22.result c.copy-own.result refl (omega arith) c.index-s-22.is (c.copy-own.ensures ∙ sym c.index-s-22.is) (rw (← c.at.view_is) at c.requires.holds))

pub rule_broken_by_irqs-requires : goal.rule_broken_by_irqs-requires
rule_broken_by_irqs-requires c =
    rw (c.identity_change-entry.ensures.kept, c.register_write-entry.ensures, c.copy.ensures)
    (values_well c.at.inside.bounds.now _ (handler_values c.at.inside.bounds.now c.at.inside.point.state.now c.in-Some.sp c.at.inside.point.state.now.ccpn c.most_words-most_words.ensures.limits c.in-Some.ensures.value))

pub returns-in-Some-rule_broken_by_irqs-clause-value : goal.returns-in-Some-rule_broken_by_irqs-clause-value
returns-in-Some-rule_broken_by_irqs-clause-value c =
    rw (← c.at.view_is) (own_value c.at.inside.bounds.now c.at.inside.point.state.now c.at.inside.point.state.now c.index-s-22.result c.copy-own.result refl (omega arith) c.index-s-22.is (c.copy-own.ensures ∙ sym c.index-s-22.is) c.at.invariant.values)

pub returns-in-Some-rule_broken_by_irqs-clause-holds : goal.returns-in-Some-rule_broken_by_irqs-clause-holds
returns-in-Some-rule_broken_by_irqs-clause-holds c =
    rw (← c.at.view_is) (own_holds c.at.inside.plan.now c.at.inside.cert.now c.at.inside.node.now c.at.inside.point.state.now c.at.inside.point.state.now c.index-s-22.result c.copy-own.result refl (omega arith) c.index-s-22.is (c.copy-own.ensures ∙ sym c.index-s-22.is) (rw (← c.at.view_is) at c.requires.holds))

pub returns-in-None-clause-holds : goal.returns-in-None-clause-holds
returns-in-None-clause-holds c =
    let s = c.at.inside.point.state.now in
    let sp = c.in-Some.sp in
    let k = c.identity_change-entry.result in
    let first : c.register_write-entry.result ≡ register_write 26 sp = c.register_write-entry.ensures ∙ ap (λ (v : Val). register_write 26 v) c.copy.ensures in
    let second : k.second ≡ no_write = ap (λ (x : Change). x.second) c.identity_change-entry.ensures.kept in
    let third : k.third ≡ no_write = ap (λ (x : Change). x.third) c.identity_change-entry.ensures.kept in
    let none : c.clear.new.self ≡ record { items = [] } = ap (λ (l : List Bool). let a : ArrayVec Bool = record { items = l } in a) c.clear.ensures in
    rw (← c.at.view_is)
    (other_stack c.at.inside.plan.now c.at.inside.cert.now c.at.inside.node.now s _ sp k.ccpn _ (entered_state s sp k.ccpn c.register_write-entry.result k.second k.third c.clear.new.self first second third none) (c.as_slice.ensures.value ∙ c.possible_irqs.ensures) c.in-Some.ensures.stack
    (rw (c.in-None.is, ← c.at.view_is) at c.rule_broken_by_irqs.ensures))
