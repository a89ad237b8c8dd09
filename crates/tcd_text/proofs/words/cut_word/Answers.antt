use Rattle.std.proofs.Common.{◌∙◌, sym}
use Rattle.tcd_text.proofs.LineLaws.{split_at, split_whole}
use Rattle.tcd_text.proofs.words.cut_word.Goals as goal

pub returns-in-None : goal.returns-in-None
returns-in-None c = split_whole c.args.text.now (sym c.find_blank.ensures.value ∙ c.in-None.is)

pub returns-in-Some : goal.returns-in-Some
returns-in-Some c = rw (c.text_before.ensures, c.text_after.ensures) (split_at c.args.text.now c.in-Some.place (sym c.find_blank.ensures.value ∙ c.in-Some.is))
