use Rattle.std.proofs.Common.{◌∙◌}
use Rattle.value_domain.proofs.RangeLaws.{one_value, words_first}
use Rattle.value_domain.proofs.lattice.write_cover_words.Goals as goal

pub join_word_list-requires : goal.join_word_list-requires
join_word_list-requires c = rw c.set_word.ensures (one_value c.args.b.now _ c.most_words-most_words.ensures.limits (c.type_inv.words 0).fits)

pub returns-clause-cover : goal.returns-clause-cover
returns-clause-cover c = c.join_word_list.ensures.cover ∙ rw c.set_word.ensures (words_first c.args.b.now c.args.words.now c.requires)
