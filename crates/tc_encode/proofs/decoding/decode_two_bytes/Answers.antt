use Rattle.std.proofs.Common.{arith}
use Rattle.tc_encode.proofs.Wholes.{short_ok, short_none}
use Rattle.tc_encode.proofs.decoding.decode_two_bytes.Goals as goal

pub returns-in-Some : goal.returns-in-Some
returns-in-Some c = λ rest. short_ok c.args.a c.args.b _ c.in-Some.found rest c.requires (omega arith) (omega arith) (omega arith) c.in-Some.ensures.some

pub returns-in-None : goal.returns-in-None
returns-in-None c = λ rest. short_none c.args.a c.args.b _ rest c.requires (omega arith) c.in-None.ensures.none
