use Rattle.std.proofs.Common.{◌∙◌}
use Rattle.value_domain.proofs.RangeLaws.{any_value}
use Rattle.store_ranges.proofs.Covers.{anything-word, numbers-cover, numbers_value}
use Rattle.store_ranges.proofs.loads.write_unsigned_loaded_words.Goals as goal

pub returns-then-size-eq4-clause-cover : goal.returns-then-size-eq4-clause-cover
returns-then-size-eq4-clause-cover c = c.write_any.ensures ∙ rw c.if-size-eq4.true (anything-word c.args.b.now c.most_words-most_words.ensures.limits)

pub returns-then-size-eq4-clause-value : goal.returns-then-size-eq4-clause-value
returns-then-size-eq4-clause-value c = rw c.write_any.ensures (any_value c.args.b.now c.most_words-most_words.ensures.limits)

pub returns-else-size-eq4-clause-cover : goal.returns-else-size-eq4-clause-cover
returns-else-size-eq4-clause-cover c =
    c.set_span.ensures ∙ rw (c.threshold_above-last.ensures.value, c.greatest_loaded_number.ensures) (numbers-cover c.args.b.now c.args.size c.most_words-most_words.ensures.limits c.requires)

pub returns-else-size-eq4-clause-value : goal.returns-else-size-eq4-clause-value
returns-else-size-eq4-clause-value c =
    rw (c.set_span.ensures, c.threshold_above-last.ensures.value, c.greatest_loaded_number.ensures) (numbers_value c.args.b.now c.args.size c.most_words-most_words.ensures.limits c.requires)
