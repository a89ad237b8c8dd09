use Rattle.std.proofs.Common.{arith}
use Rattle.tc_encode.proofs.Wholes.{long_ok, long_none}
use Rattle.tc_encode.proofs.decoding.decode_four_bytes.Goals as goal

pub returns-in-Some : goal.returns-in-Some
returns-in-Some c = λ rest. long_ok c.args.a c.args.b c.args.c c.args.d _ c.in-Some.found rest c.requires (omega arith) (omega arith) (omega arith) (omega arith) (omega (arith, c.from_le_bytes.ensures)) c.in-Some.ensures.some

pub returns-in-None : goal.returns-in-None
returns-in-None c = λ rest. long_none c.args.a c.args.b c.args.c c.args.d _ rest c.requires (omega (arith, c.from_le_bytes.ensures)) c.in-None.ensures.none
