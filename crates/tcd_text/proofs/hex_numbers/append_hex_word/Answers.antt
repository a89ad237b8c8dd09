use Rattle.std.proofs.Common.{sym, subst, arith}
use Rattle.std.specs.Str.{IsAscii}
use Rattle.tcd_text.proofs.DigitLaws.{hex_word-ascii}
use Rattle.tcd_text.proofs.hex_numbers.append_hex_word.Goals as goal

pub append_ascii-requires : goal.append_ascii-requires
append_ascii-requires c = subst IsAscii (sym c.hex_word.ensures) (hex_word-ascii _ (omega arith))
