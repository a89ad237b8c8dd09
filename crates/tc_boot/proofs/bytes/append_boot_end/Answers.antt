use Rattle.std.proofs.Common.{refl, ap, slice_index}
use Rattle.tcd_plan.specs.PlanData.{PlanData}
use Rattle.tc_isa.specs.NamedInstructions as named
use Rattle.tc_boot.specs.Sequence as sequence
use Rattle.tc_boot.proofs.PutLaws.{none_put, then_put, then_puts}
use Rattle.tc_boot.proofs.bytes.append_boot_end.Goals as goal

pub returns-clause-more : goal.returns-clause-more
returns-clause-more c =
    let start = none_put c.args.bytes.now.items in
    let s0 = then_puts {js = sequence.address_register_write 0 (slice_index c.plan.inside.globals 0)} (sequence.address_register_write 0 (slice_index c.args.plan.now.globals 0)) start c.append_address_register_write.ensures.more (ap (λ (p : PlanData). sequence.address_register_write 0 (slice_index p.globals 0)) c.plan.view_is) in
    let s1 = then_puts {js = sequence.address_register_write 1 (slice_index c.plan.inside.globals 1)} (sequence.address_register_write 1 (slice_index c.args.plan.now.globals 1)) s0 c.append_address_register_write-2.ensures.more (ap (λ (p : PlanData). sequence.address_register_write 1 (slice_index p.globals 1)) c.plan.view_is) in
    let s2 = then_puts {js = sequence.address_register_write 8 (slice_index c.plan.inside.globals 2)} (sequence.address_register_write 8 (slice_index c.args.plan.now.globals 2)) s1 c.append_address_register_write-3.ensures.more (ap (λ (p : PlanData). sequence.address_register_write 8 (slice_index p.globals 2)) c.plan.view_is) in
    let s3 = then_puts {js = sequence.address_register_write 9 (slice_index c.plan.inside.globals 3)} (sequence.address_register_write 9 (slice_index c.args.plan.now.globals 3)) s2 c.append_address_register_write-4.ensures.more (ap (λ (p : PlanData). sequence.address_register_write 9 (slice_index p.globals 3)) c.plan.view_is) in
    let s4 = then_puts {js = sequence.address_register_write 10 (c.plan.inside.sp)} (sequence.address_register_write 10 c.args.plan.now.sp) s3 c.append_address_register_write-5.ensures.more (ap (λ (p : PlanData). sequence.address_register_write 10 (p.sp)) c.plan.view_is) in
    let s5 = then_puts (sequence.address_register_write 15 c.args.entry) s4 c.append_address_register_write-6.ensures.more (refl) in
    let s6 = then_put (named.ji 15) s5 c.append_boot_instruction.ensures.more (c.ji.ensures.is) in
    s6.bytes
