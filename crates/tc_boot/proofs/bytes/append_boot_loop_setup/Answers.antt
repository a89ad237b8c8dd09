use Rattle.std.proofs.Common.{ap, ◌∙◌, ◌-◌}
use Rattle.tcd_plan.specs.PlanData.{PlanData}
use Rattle.tc_machine.specs.PlanAreas.{first_link}
use Rattle.tc_isa.specs.NamedInstructions as named
use Rattle.tc_boot.specs.Sequence as sequence
use Rattle.tc_boot.proofs.PutLaws.{none_put, then_put, then_puts}
use Rattle.tc_boot.proofs.bytes.append_boot_loop_setup.Goals as goal

pub returns-clause-more : goal.returns-clause-more
returns-clause-more c =
    let start = none_put c.args.bytes.now.items in
    let s0 = then_put (named.movh 0 (named.adjusted_upper_half (first_link c.args.plan.now))) start c.append_boot_instruction.ensures.more (c.movh.ensures.is ∙ ap (λ k. named.movh 0 k) (c.adjusted_upper_half.ensures.is ∙ ap (λ x. named.adjusted_upper_half x) c.first_link.ensures)) in
    let s1 = then_put (named.addi 0 0 (named.lower_half (first_link c.args.plan.now))) s0 c.append_boot_instruction-2.ensures.more (c.addi.ensures.is ∙ ap (λ k. named.addi 0 0 k) (c.lower_half.ensures.is ∙ ap (λ x. named.lower_half x) c.first_link-2.ensures)) in
    let s2 = then_puts {js = sequence.address_register_write 2 (c.plan.inside.csa_at)} (sequence.address_register_write 2 c.args.plan.now.csa_at) s1 c.append_address_register_write.ensures.more (ap (λ (p : PlanData). sequence.address_register_write 2 (p.csa_at)) c.plan.view_is) in
    let s3 = then_put (named.mov 1 (c.args.plan.now.areas - 1)) s2 c.append_boot_instruction-3.ensures.more (c.mov.ensures.is ∙ ap (λ (p : PlanData). named.mov 1 (p.areas - 1)) c.plan.view_is) in
    let s4 = then_put (named.mov_a 3 1) s3 c.append_boot_instruction-4.ensures.more (c.mov_a.ensures.is) in
    s4.bytes
