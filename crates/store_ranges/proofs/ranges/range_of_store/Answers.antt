use Rattle.std.proofs.Common.{◌∙◌, rules, tests}
use Rattle.std.proofs.lemmas.Iterator.{YieldsList-from_slice}
use Rattle.std.proofs.lemmas.Iterator.Search.{find_from_yields_List}
use Rattle.tcd_base.specs.Ranges.{is_within_range}
use Rattle.store_ranges.proofs.ranges.range_of_store.Goals as goal

pub returns : goal.returns
returns c =
    c.copied.ensures
    ∙ find_from_yields_List (is_within_range c.args.x c.args.n) _ _ c.find.result c.find.ensures.ran (YieldsList-from_slice c.args.ranges.now cc) (λ x b q k. search (rules, tests))
