use Rattle.std.proofs.Common.{◌∙◌, sym}
use Rattle.tcd_text.proofs.LineLaws.{found_end, no_end}
use Rattle.tcd_text.proofs.lines.line_end.Goals as goal

pub returns-in-Some-clause-end : goal.returns-in-Some-clause-end
returns-in-Some-clause-end c = found_end c.args.text.now c.in-Some.end (sym c.find_line_feed.ensures.value ∙ c.in-Some.is)

pub returns-in-None-clause-end : goal.returns-in-None-clause-end
returns-in-None-clause-end c = no_end c.args.text.now (sym c.find_line_feed.ensures.value ∙ c.in-None.is)
