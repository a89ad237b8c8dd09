use Rattle.tc_isa.specs.NamedInstructions as named
use Rattle.tc_boot.proofs.PutLaws.{none_put, then_put}
use Rattle.tc_boot.proofs.bytes.append_boot_link_loop.Goals as goal

pub returns-clause-more : goal.returns-clause-more
returns-clause-more c =
    let start = none_put c.args.bytes.now.items in
    let s0 = then_put (named.addi 0 0 1) start c.append_boot_instruction.ensures.more (c.addi.ensures.is) in
    let s1 = then_put (named.st_w_after 2 64 0) s0 c.append_boot_instruction-2.ensures.more (c.st_w_after.ensures.is) in
    let s2 = then_put (named.loop_at 3 32764) s1 c.append_boot_instruction-3.ensures.more (c.loop_at.ensures.is) in
    let s3 = then_put (named.mov 1 0) s2 c.append_boot_instruction-4.ensures.more (c.mov.ensures.is) in
    let s4 = then_put (named.st_w_l 2 65472 1) s3 c.append_boot_instruction-5.ensures.more (c.st_w_l.ensures.is) in
    s4.bytes
