use Rattle.value_domain.proofs.WordLaws.{words_from}
use Rattle.depth_cert.proofs.value_reader.overwrite_with_set.Goals as goal

pub set_words-requires : goal.set_words-requires
set_words-requires c = words_from c.args.words.now c.requires.some c.requires.few c.requires.rising (λ k. (c.type_inv.words k).fits)
