use Rattle.std.proofs.Common.{sym, subst, arith}
use Rattle.std.specs.Str.{IsAscii}
use Rattle.tcd_text.proofs.DigitLaws.{hex_byte-ascii}
use Rattle.tcd_text.proofs.hex_numbers.append_hex_byte.Goals as goal

pub append_ascii-requires : goal.append_ascii-requires
append_ascii-requires c = subst IsAscii (sym c.hex_byte.ensures) (hex_byte-ascii _ (omega (arith, c.requires)))
