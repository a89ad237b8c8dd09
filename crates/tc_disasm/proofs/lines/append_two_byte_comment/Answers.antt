use Rattle.std.proofs.Common.{◌∙◌, ap, sym, subst, arith}
use Rattle.std.specs.Str.{IsAscii}
use Rattle.tcd_text.specs.HexNumbers.{hex_byte}
use Rattle.tc_disasm.proofs.HexLines.{half_remark, half_remark_ascii, on_text}
use Rattle.tc_disasm.proofs.lines.append_two_byte_comment.Goals as goal

pub append_ascii-requires : goal.append_ascii-requires
append_ascii-requires c =
    subst IsAscii
    (sym (half_remark c.args.address c.args.a c.args.b c.hex_word-w.result c.hex_byte-first.result c.hex_byte-second.result c.hex_word-w.ensures (c.hex_byte-first.ensures ∙ ap hex_byte c.from.ensures) (c.hex_byte-second.ensures ∙ ap hex_byte c.from-2.ensures)))
    (half_remark_ascii c.args.address c.args.a c.args.b (omega arith) (omega arith) (omega arith))

pub returns : goal.returns
returns c =
    on_text c.append_ascii.result _ _ _ _
    (half_remark c.args.address c.args.a c.args.b c.hex_word-w.result c.hex_byte-first.result c.hex_byte-second.result c.hex_word-w.ensures (c.hex_byte-first.ensures ∙ ap hex_byte c.from.ensures) (c.hex_byte-second.ensures ∙ ap hex_byte c.from-2.ensures))
    c.append_ascii.ensures
