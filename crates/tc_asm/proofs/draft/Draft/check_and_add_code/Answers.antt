use Rattle.std.proofs.Common.{◌∙◌}
use Rattle.tc_asm.proofs.KnownSymbols.{alone_step, alone_rule}
use Rattle.tc_asm.proofs.draft.Draft.check_and_add_code.Goals as goal

pub returns-clause-draft : goal.returns-clause-draft
returns-clause-draft c =
    alone_step c.args.labels.now c.args.self.now _ c.args.row c.args.fields.now c.first_assembled_bytes.result.now (c.first_assembled_bytes.ensures ∙ c.assembled_code-code.ensures) c.in_ok-rule.ensures.draft

pub returns-clause-rule : goal.returns-clause-rule
returns-clause-rule c =
    alone_rule c.args.labels.now c.args.self.now c.args.row c.args.fields.now c.first_assembled_bytes.result.now c.in_ok-rule.rule c.min.result
    (c.first_assembled_bytes.ensures ∙ c.assembled_code-code.ensures) c.in_ok-rule.ensures.rule c.min.ensures
