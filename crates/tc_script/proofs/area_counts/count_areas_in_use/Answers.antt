use Rattle.std.proofs.Common.{refl, ap, ◌∙◌}
use Rattle.std.specs.Prelude.{unwrap_or}
use Rattle.std.proofs.lemmas.Bool.{eqb-true}
use Rattle.tc_script.proofs.AreaLaws.{counted_anew}
use Rattle.tc_script.proofs.area_counts.count_areas_in_use.Goals as goal

pub returns : goal.returns
returns c = counted_anew c.args.m.now _ (c.unwrap_or-count.ensures ∙ ap (λ o. unwrap_or o 0) c.used.ensures) refl (λ e. eqb-true _ _ e)
