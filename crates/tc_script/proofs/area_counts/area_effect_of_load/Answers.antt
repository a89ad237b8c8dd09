use Rattle.std.proofs.Common.{sym, ◌∙◌}
use Rattle.tc_script.proofs.AreaLaws.{told_stayed}
use Rattle.tc_script.proofs.area_counts.area_effect_of_load.Goals as goal

pub returns-then-is_trapping_access : goal.returns-then-is_trapping_access
returns-then-is_trapping_access c = λ after saves stays. c.area_effect_of_save.ensures after (saves (sym c.is_trapping_access.ensures ∙ c.if-is_trapping_access.true))

pub returns-else-is_trapping_access : goal.returns-else-is_trapping_access
returns-else-is_trapping_access c = λ after saves stays. told_stayed c.args.used c.args.m.now after c.requires.counted (stays (sym c.is_trapping_access.ensures ∙ c.if-is_trapping_access.false))
