use Rattle.std.proofs.Common.{refl, ap, ◌∙◌, ℕ}
use Rattle.tcd_plan.specs.PlanData.{PlanData}
use Rattle.tc_machine.specs.PlanAreas.{first_link}
use Rattle.tc_boot.specs.Sequence as sequence
use Rattle.tc_boot.proofs.PutLaws.{none_put, then_puts}
use Rattle.tc_boot.proofs.bytes.append_boot_core_setup.Goals as goal

pub returns-clause-more : goal.returns-clause-more
returns-clause-more c =
    let start = none_put c.args.bytes.now.items in
    let s0 = then_puts (sequence.core_register_write 0xfe2c c.args.plan.now.start_ccpn) start c.append_core_register_write.ensures.more (ap (λ (x : ℕ). sequence.core_register_write 0xfe2c x) c.from.ensures ∙ ap (λ (p : PlanData). sequence.core_register_write 0xfe2c p.start_ccpn) c.plan.view_is) in
    let s1 = then_puts (sequence.core_register_write 0xfe00 0) s0 c.append_core_register_write-2.ensures.more (refl) in
    let s2 = then_puts (sequence.core_register_write 0xfe38 (first_link c.args.plan.now)) s1 c.append_core_register_write-3.ensures.more (ap (λ (x : ℕ). sequence.core_register_write 0xfe38 x) c.first_link.ensures) in
    let s3 = then_puts (sequence.core_register_write 0xfe3c (sequence.boot_limit_link c.args.plan.now)) s2 c.append_core_register_write-4.ensures.more (ap (λ (x : ℕ). sequence.core_register_write 0xfe3c x) c.boot_limit_link.ensures) in
    let s4 = then_puts {js = sequence.core_register_write 0xfe20 (c.plan.inside.biv)} (sequence.core_register_write 0xfe20 c.args.plan.now.biv) s3 c.append_core_register_write-5.ensures.more (ap (λ (p : PlanData). sequence.core_register_write 0xfe20 (p.biv)) c.plan.view_is) in
    let s5 = then_puts {js = sequence.core_register_write 0xfe24 (c.plan.inside.btv)} (sequence.core_register_write 0xfe24 c.args.plan.now.btv) s4 c.append_core_register_write-6.ensures.more (ap (λ (p : PlanData). sequence.core_register_write 0xfe24 (p.btv)) c.plan.view_is) in
    let s6 = then_puts {js = sequence.core_register_write 0xfe28 (c.plan.inside.isp)} (sequence.core_register_write 0xfe28 c.args.plan.now.isp) s5 c.append_core_register_write-7.ensures.more (ap (λ (p : PlanData). sequence.core_register_write 0xfe28 (p.isp)) c.plan.view_is) in
    let s7 = then_puts (sequence.core_register_write 0xfe04 (sequence.boot_psw c.args.plan.now)) s6 c.append_core_register_write-8.ensures.more (ap (λ (x : ℕ). sequence.core_register_write 0xfe04 x) c.boot_psw.ensures) in
    s7.bytes
