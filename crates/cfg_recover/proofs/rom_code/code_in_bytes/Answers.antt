use Rattle.std.proofs.Common.{sym, ◌∙◌, arith}
use Rattle.tc_encode.proofs.DecodeProofs.{decode_laws}
use Rattle.cfg_recover.proofs.rom_code.code_in_bytes.Goals as goal

pub overflow_cast-result : goal.overflow_cast-result
overflow_cast-result c = let l = decode_laws.lengths c.args.bytes.now c.in-Ok.found.0 c.in-Ok.found.1 (sym c.decode.ensures.decoded ∙ c.in-Ok.is) in omega (arith, l.1)
