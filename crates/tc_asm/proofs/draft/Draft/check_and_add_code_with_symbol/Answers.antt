use Rattle.std.proofs.Common.{◌∙◌}
use Rattle.tc_stmt.specs.RowFields.{row_fields_of}
use Rattle.tc_stmt.specs.Items.{reference_of}
use Rattle.tc_asm.proofs.KnownSymbols.{linked_rule}
use Rattle.tc_asm.proofs.draft.Draft.check_and_add_code_with_symbol.Goals as goal

pub returns-clause-rule : goal.returns-clause-rule
returns-clause-rule c =
    linked_rule c.args.labels.now c.args.self.now c.args.row c.args.fields.now (reference_of c.args.r) (row_fields_of c.resolve_instruction-found.result) c.first_assembled_bytes.result.now c.in_ok-rule.rule c.min.result
    c.resolve_instruction-found.ensures (c.first_assembled_bytes.ensures ∙ c.assembled_code-code.ensures) c.in_ok-rule.ensures.rule c.min.ensures
