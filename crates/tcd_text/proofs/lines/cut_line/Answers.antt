use Rattle.tcd_text.proofs.LineLaws.{lines_of-first}
use Rattle.tcd_text.proofs.lines.cut_line.Goals as goal

pub returns-clause-lines : goal.returns-clause-lines
returns-clause-lines c = rw (c.text_before.ensures, c.text_after.ensures, c.line_end-end.ensures.end) (lines_of-first c.args.text.now c.requires)
