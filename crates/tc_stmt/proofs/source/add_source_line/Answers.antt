use Rattle.tc_stmt.specs.Lines.{line_of_text}
use Rattle.tc_stmt.proofs.ReadLines.{read_more}
use Rattle.tc_stmt.proofs.source.add_source_line.Goals as goal

pub returns : goal.returns
returns c =
    read_more c.args.lines.now.items _ c.in_ok-read_line.field-0 c.args.items.now.items _ (line_of_text c.args.line.now)
    c.in_ok-push.ensures.items c.in_ok-read_line.ensures.rule c.in_ok-read_line.ensures.count c.in_ok-read_line.ensures.items
