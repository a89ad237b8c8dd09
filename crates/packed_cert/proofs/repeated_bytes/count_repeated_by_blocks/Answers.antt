use Rattle.std.proofs.Common.{arith}
use Rattle.packed_cert.proofs.repeated_bytes.count_repeated_by_blocks.Goals as goal

pub loop-i-preserved : goal.loop-i-preserved
loop-i-preserved c = record { within = omega (arith, c.loop-i-test.true); same = c.is_block_repeated.ensures c.if-not-is_block_repeated.false }
