use Rattle.std.proofs.Common.{ap, ◌∙◌, ◌++◌}
use Rattle.std.specs.Prelude.{string_bytes}
use Rattle.tcd_text.specs.HexNumbers.{hex_byte}
use Rattle.tc_disasm.proofs.Appending.{flat_map_on}
use Rattle.tc_disasm.proofs.lines.append_hex_bytes.Goals as goal

pub loop-byte-preserved : goal.loop-byte-preserved
loop-byte-preserved c =
    flat_map_on hex_byte c.args.bytes.now c.loop-byte.byte-index 0 _ _ _ c.loop-byte-test.true c.loop-byte.invariant
    (c.in_ok-append_hex_byte.ensures ∙ ap (λ b. string_bytes c.loop-byte.text ++ hex_byte b) c.from.ensures)
