use Rattle.std.proofs.Common.{ap, ◌∙◌}
use Rattle.tc_isa.specs.NamedInstructions as named
use Rattle.tc_boot.proofs.PutLaws.{none_put, then_put}
use Rattle.tc_boot.proofs.bytes.append_core_register_write.Goals as goal

pub returns-clause-more : goal.returns-clause-more
returns-clause-more c =
    let start = none_put c.args.bytes.now.items in
    let s0 = then_put (named.movh 0 (named.adjusted_upper_half c.args.x)) start c.append_boot_instruction.ensures.more (c.movh.ensures.is ∙ ap (λ k. named.movh 0 k) c.adjusted_upper_half.ensures.is) in
    let s1 = then_put (named.addi 0 0 (named.lower_half c.args.x)) s0 c.append_boot_instruction-2.ensures.more (c.addi.ensures.is ∙ ap (λ k. named.addi 0 0 k) c.lower_half.ensures.is) in
    let s2 = then_put (named.mtcr c.args.number 0) s1 c.append_boot_instruction-3.ensures.more (c.mtcr.ensures.is ∙ ap (λ k. named.mtcr k 0) c.from.ensures) in
    let s3 = then_put (named.isync) s2 c.append_boot_instruction-4.ensures.more (c.isync.ensures.is) in
    s3.bytes
