use Rattle.std.proofs.Common.{arith}
use Rattle.elf_image.specs.Images.{segment_data}
use Rattle.tc_machine.proofs.Copied.{segment_copied}
use Rattle.tc_machine.proofs.start_memory.copy_segment.Goals as goal

pub returns-then-from-to-clause-copied : goal.returns-then-from-to-clause-copied
returns-then-from-to-clause-copied c =
    segment_copied (segment_data c.args.segment.now) c.args.range.now c.max-from.result c.min-to.result _ _ c.deref.result.now c.args.mem.now c.set_bytes.new.self
    c.set_bytes.ensures.written c.deref.ensures.value c.max-from.ensures
    (omega (arith, c.min-to.ensures, c.from.ensures, c.len.ensures, c.from-2.ensures, c.from-3.ensures))
    (omega (arith, c.from-4.ensures, c.if-from-to.true))
    (omega (arith, c.max-from.ensures))
    (omega (arith, c.min-to.ensures, c.from.ensures, c.len.ensures, c.from-2.ensures, c.from-3.ensures, c.from-then-from-to.ensures, c.requires.segment))
