use Rattle.std.proofs.Common.{min, ap, ◌∙◌}
use Rattle.tc_asm.specs.Rules.{rule_broken_before_section, rule_broken_by_name}
use Rattle.tc_asm.proofs.KnownSymbols.{label_rule_known}
use Rattle.tc_asm.proofs.draft.Draft.rule_broken_by_known_label.Goals as goal

pub returns : goal.returns
returns c =
    c.min-2.ensures
    ∙ ap (λ a. min a c.min.result) (c.min-section.ensures ∙ ap (min 15) c.rule_broken_before_section.ensures)
    ∙ ap (min (min 15 (rule_broken_before_section c.args.self.now))) (c.min.ensures ∙ ap (λ a. min a 15) c.rule_broken_by_name.ensures)
    ∙ label_rule_known c.args.labels.now c.args.self.now c.args.name.now
