use Rattle.elf_image.proofs.ReadBytes.{bytes_more}
use Rattle.elf_image.proofs.segments.establish_segment_bytes.Goals as goal

pub loop-segment-preserved : goal.loop-segment-preserved
loop-segment-preserved c =
    bytes_more c.args.segments.now c.loop-segment.segment-index c.segment-item.result c.deref.result.now c.loop-segment-test.true c.segment-item.is c.deref.ensures.value c.establish_bytes_below_256.ensures c.loop-segment.invariant
