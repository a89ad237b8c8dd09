use Rattle.std.proofs.Common.{sym, subst, arith}
use Rattle.std.specs.Str.{IsAscii}
use Rattle.tc_disasm.proofs.HexLines.{address_line, address_ascii, on_text}
use Rattle.tc_disasm.proofs.texts.append_comment_start.Goals as goal

pub append_ascii-requires : goal.append_ascii-requires
append_ascii-requires c = subst IsAscii (sym (address_line c.args.address c.hex_word-w.result c.hex_word-w.ensures)) (address_ascii c.args.address (omega arith))

pub returns : goal.returns
returns c = on_text c.append_ascii.result _ _ _ _ (address_line c.args.address c.hex_word-w.result c.hex_word-w.ensures) c.append_ascii.ensures
