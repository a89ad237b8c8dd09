use Rattle.std.proofs.Common.{min, ap, ◌∙◌}
use Rattle.tc_asm.specs.Rules.{rule_broken_by_name}
use Rattle.tc_asm.proofs.KnownSymbols.{global_rule_known}
use Rattle.tc_asm.proofs.draft.Draft.rule_broken_by_known_global.Goals as goal

pub returns : goal.returns
returns c =
    c.min.ensures
    ∙ ap (λ a. min a c.min-room.result) c.rule_broken_by_name.ensures
    ∙ ap (min (rule_broken_by_name c.args.name.now)) (c.min-room.ensures ∙ ap (min 15) c.rule_broken_by_undefined_global.ensures)
    ∙ global_rule_known c.args.labels.now c.args.self.now c.args.name.now
