use Rattle.std.proofs.Common.{arith}
use Rattle.tc_encode.proofs.Wholes.{empty_short}
use Rattle.tc_encode.proofs.decoding.decode_16_bit.Goals as goal

pub returns-in-empty : goal.returns-in-empty
returns-in-empty c = empty_short c.args.bytes.now (omega arith)
