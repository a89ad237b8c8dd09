use Rattle.std.proofs.Common.{sym, ◌∙◌}
use Rattle.std.proofs.lemmas.Bool.{OnTrue_from}
use Rattle.tcd_plan.specs.PlanData.{plan_data}
use Rattle.store_ranges.proofs.RomLaws.{any_fits}
use Rattle.store_ranges.proofs.rom.is_in_rom.Goals as goal

pub returns-clause-fits : goal.returns-clause-fits
returns-clause-fits c =
    let is = rw (c.as_slice.ensures.value, c.from.ensures) at c.is_in_one_range.ensures in
    OnTrue_from _ _ (λ t. any_fits (plan_data c.plan.inside) c.args.x c.args.n c.plan.invariant (sym is ∙ t))
