use Rattle.std.proofs.Common.{◌-◌, ◌<◌, length, arith}
use Rattle.tc_machine.proofs.Copied.{segments_begin, segments_more, ends_at}
use Rattle.tc_machine.proofs.start_memory.copy_segments.Goals as goal

pub loop-rest-init : goal.loop-rest-init
loop-rest-init c = record { within = omega arith; copied = segments_begin c.args.segments.now _ c.args.range.now c.args.mem.now (omega arith); bytes = λ h. h }

pub copy_segment-requires-clause-segment : goal.copy_segment-requires-clause-segment
copy_segment-requires-clause-segment c =
    ends_at c.args.segments.now (c.loop-rest.rest - 1) c.index-segments-rest.result (omega (arith, c.loop-rest-test.true, c.loop-rest.invariant.within)) c.index-segments-rest.is c.requires.segments

pub loop-rest-preserved : goal.loop-rest-preserved
loop-rest-preserved c =
    let within : c.loop-rest.rest - 1 < length c.args.segments.now = omega (arith, c.loop-rest-test.true, c.loop-rest.invariant.within) in
    record {
      within = omega (arith, within);
      copied = segments_more c.args.segments.now c.loop-rest.rest (c.loop-rest.rest - 1) c.index-segments-rest.result c.args.range.now c.args.mem.now c.loop-rest.mem c.copy_segment.new.mem
          (omega (arith, c.loop-rest-test.true)) within c.index-segments-rest.is c.loop-rest.invariant.copied c.copy_segment.ensures.copied;
      bytes = λ h. c.copy_segment.ensures.bytes (c.loop-rest.invariant.bytes h);
    }
