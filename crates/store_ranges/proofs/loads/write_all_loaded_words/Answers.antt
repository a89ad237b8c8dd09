use Rattle.std.proofs.Common.{◌∙◌}
use Rattle.value_domain.proofs.RangeLaws.{any_value}
use Rattle.store_ranges.proofs.Covers.{anything-signed}
use Rattle.store_ranges.proofs.loads.write_all_loaded_words.Goals as goal

pub returns-then-load-clause-cover : goal.returns-then-load-clause-cover
returns-then-load-clause-cover c = c.write_any.ensures ∙ rw c.if-load.true (anything-signed c.args.load.size c.requires c.args.b.now c.most_words-most_words.ensures.limits)

pub returns-then-load-clause-value : goal.returns-then-load-clause-value
returns-then-load-clause-value c = rw c.write_any.ensures (any_value c.args.b.now c.most_words-most_words.ensures.limits)
