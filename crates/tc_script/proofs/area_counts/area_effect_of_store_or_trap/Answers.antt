use Rattle.std.proofs.Common.{sym, ◌∙◌}
use Rattle.tc_script.proofs.area_counts.area_effect_of_store_or_trap.Goals as goal

pub returns-then-is_trapping_access : goal.returns-then-is_trapping_access
returns-then-is_trapping_access c = λ after saves stores. c.area_effect_of_save.ensures after (saves (sym c.is_trapping_access.ensures ∙ c.if-is_trapping_access.true))

pub returns-else-is_trapping_access : goal.returns-else-is_trapping_access
returns-else-is_trapping_access c = λ after saves stores. c.area_effect_of_store.ensures after (stores (sym c.is_trapping_access.ensures ∙ c.if-is_trapping_access.false))
