use Rattle.tcd_text.proofs.LineLaws.{five_words}
use Rattle.tcd_text.proofs.words.words_in.Goals as goal

pub returns-in-Some-cut_word-3 : goal.returns-in-Some-cut_word-3
returns-in-Some-cut_word-3 c = five_words _ _ _ _ _ _ _ _ c.in-Some-cut_word-3._rest.now c.in-Some.ensures c.in-Some-cut_word.ensures c.in-Some-cut_word-2.ensures c.in-Some-cut_word-3.ensures
