use Rattle.std.proofs.Common.{◌∙◌, refl, arith, length}
use Rattle.std.proofs.lemmas.Bool.{le-leb}
use Rattle.value_domain.proofs.WordLaws.{words_rising}
use Rattle.value_domain.proofs.MergeLaws.{span_words}
use Rattle.value_domain.proofs.lattice.write_value_of_words.Goals as goal

pub set_words-requires : goal.set_words-requires
set_words-requires c =
    words_rising c.args.words.now c.requires.some (omega (arith, c.if-words-most_words.true, c.most_words.ensures.most_words, c.most_words.ensures.limits.wide)) c.requires.rising
    (λ k. (c.type_inv.words k).fits)

pub returns-then-words-most_words : goal.returns-then-words-most_words
returns-then-words-most_words c =
    rw (c.set_words.ensures, le-leb (length c.args.words.now) c.args.b.now.most_words (omega (arith, c.if-words-most_words.true, c.most_words.ensures.most_words))) refl

pub returns : goal.returns
returns c =
    c.write_span.ensures
    ∙ rw c.extent_step.ensures
    (span_words c.args.b.now c.args.words.now c.requires.rising c.requires.some (omega (arith, c.if-words-most_words.false, c.most_words.ensures.most_words)))
