use Rattle.std.proofs.Common.{◌∙◌, ap, sym, subst, arith}
use Rattle.std.specs.Str.{IsAscii}
use Rattle.tcd_text.specs.HexNumbers.{hex_byte}
use Rattle.tc_disasm.proofs.HexLines.{four_remark, four_remark_ascii, on_text}
use Rattle.tc_disasm.proofs.lines.append_four_byte_comment.Goals as goal

pub append_ascii-requires : goal.append_ascii-requires
append_ascii-requires c =
    subst IsAscii
    (sym (four_remark c.args.address c.args.a c.args.b c.args.c c.args.d c.hex_word-w.result c.hex_byte-first.result c.hex_byte-second.result c.hex_byte-third.result c.hex_byte-fourth.result c.hex_word-w.ensures (c.hex_byte-first.ensures ∙ ap hex_byte c.from.ensures) (c.hex_byte-second.ensures ∙ ap hex_byte c.from-2.ensures) (c.hex_byte-third.ensures ∙ ap hex_byte c.from-3.ensures) (c.hex_byte-fourth.ensures ∙ ap hex_byte c.from-4.ensures)))
    (four_remark_ascii c.args.address c.args.a c.args.b c.args.c c.args.d (omega arith) (omega arith) (omega arith) (omega arith) (omega arith))

pub returns : goal.returns
returns c =
    on_text c.append_ascii.result _ _ _ _
    (four_remark c.args.address c.args.a c.args.b c.args.c c.args.d c.hex_word-w.result c.hex_byte-first.result c.hex_byte-second.result c.hex_byte-third.result c.hex_byte-fourth.result c.hex_word-w.ensures (c.hex_byte-first.ensures ∙ ap hex_byte c.from.ensures) (c.hex_byte-second.ensures ∙ ap hex_byte c.from-2.ensures) (c.hex_byte-third.ensures ∙ ap hex_byte c.from-3.ensures) (c.hex_byte-fourth.ensures ∙ ap hex_byte c.from-4.ensures))
    c.append_ascii.ensures
