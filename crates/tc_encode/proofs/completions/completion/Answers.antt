use Rattle.std.proofs.Common.{◌<◌, ◌≤◌, sym, subst, get_or}
use Rattle.tc_encode.proofs.Finds.{none_map}
use Rattle.tc_encode.proofs.Goes.{goes_between}
use Rattle.tc_encode.proofs.completions.completion.Goals as goal

pub returns-clause-none : goal.returns-clause-none
returns-clause-none c = none_map c.completion_in_rows.result c.completion_in_rows.ensures.none (λ none i g.
    let b = goes_between c.index_by_first_byte.result.0.now c.index_by_first_byte.result.1.now c.args.first c.args.n c.args.part i g c.index_by_first_byte.ensures.all c.index_by_first_byte.ensures.starts c.index_by_first_byte.ensures.ends c.requires.low c.requires.first in
    none i g
    (subst (λ p. get_or c.index_by_first_byte.result.0.now p 0 ≤ i.row) (sym c.from-place.ensures) b.from)
    (subst (λ p. i.row < get_or c.index_by_first_byte.result.1.now p 0) (sym c.from-place.ensures) b.to))
