use Rattle.tcd_report.proofs.GraphLemmas.LineEnds.{handler_line}
use Rattle.tcd_report.proofs.graphs.handlers.irq_line_end.Goals as goal

pub returns : goal.returns
returns c = handler_line c.args.entry c.hex_word-w.result c.hex_word-w.ensures
