use Rattle.std.proofs.Common.{◌∙◌, ◌++◌}
use Rattle.value_domain.proofs.SetLaws.{rising_distinct}
use Rattle.value_domain.proofs.MergeLaws.{some_front, cover-distinct}
use Rattle.value_domain.proofs.lattice.join_set_with_set.Goals as goal

pub write_value_of_words-requires-clause-some : goal.write_value_of_words-requires-clause-some
write_value_of_words-requires-clause-some c =
    rw (c.as_slice-in-Set-2.ensures.value, c.set_union.ensures)
    (some_front c.as_slice.result.now c.as_slice-in-Set.result.now (rw c.as_slice.ensures.items c.as_slice.ensures.words.some))

pub write_value_of_words-requires-clause-rising : goal.write_value_of_words-requires-clause-rising
write_value_of_words-requires-clause-rising c =
    rw (c.as_slice-in-Set-2.ensures.value, c.set_union.ensures) (rising_distinct (c.as_slice.result.now ++ c.as_slice-in-Set.result.now))

pub returns : goal.returns
returns c =
    c.write_value_of_words.ensures
    ∙ rw (c.as_slice-in-Set-2.ensures.value, c.set_union.ensures, c.as_slice.ensures.items, c.as_slice-in-Set.ensures.items, c.in-Set.is)
    (cover-distinct c.args.b.now (c.in-Set.own ++ c.args.words.now))
