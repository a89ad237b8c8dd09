use Rattle.std.proofs.Common.{◌∙◌}
use Rattle.std.specs.Prelude.{option_map}
use Rattle.tc_stmt.specs.Items.{reference_of}
use Rattle.tc_asm.proofs.AlikeDrafts.{code_alike}
use Rattle.tc_asm.proofs.draft.Draft.scan_code.Goals as goal

pub add_zeros_for_bytes-requires : goal.add_zeros_for_bytes-requires
add_zeros_for_bytes-requires c = λ r e. (c.requires.symbols.some r e).named

pub returns : goal.returns
returns c = λ d h.
    code_alike c.args.self.now d _ c.args.row c.args.fields.now (option_map reference_of c.args.r.now) _ c.requires c.in_ok-add_zeros_for_bytes.ensures
    (c.from-size.ensures ∙ c.assembled_code_size.ensures) h
