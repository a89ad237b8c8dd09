use Rattle.std.proofs.Common.{sym, ◌∙◌, refl}
use Rattle.tc_stmt.specs.Lines.{lines_in}
use Rattle.tc_stmt.proofs.ReadLines.{reading_none, reading_more, reading_end, read_lines}
use Rattle.tc_stmt.proofs.source.read_source.Goals as goal

pub lines-init : goal.lines-init
lines-init c = reading_none c.args.source.now _ _ c.new-lines.ensures.items c.new-items.ensures.items

pub lines-preserved : goal.lines-preserved
lines-preserved c =
    reading_more c.args.source.now c.lines.lines.items _ c.lines.items.items _ c.lines.rest.now c.line_before_feed-line.result.now c.lines.invariant c.in_ok-add_source_line.ensures
    c.in-Some.i _ (sym c.next_line_feed.ensures.value ∙ c.in-Some.is) c.line_before_feed-line.ensures c.source_after_feed-rest.ensures

pub returns-clause-lines : goal.returns-clause-lines
returns-clause-lines c =
    read_lines _ _ (lines_in c.args.source.now)
    (reading_end c.args.source.now c.lines.lines.items _ c.lines.items.items _ c.lines.rest.now _ c.lines.invariant c.in_ok-add_source_line-2.ensures (sym c.next_line_feed.ensures.value ∙ c.in_default.is) refl)

pub returns-clause-items : goal.returns-clause-items
returns-clause-items c =
    let read = reading_end c.args.source.now c.lines.lines.items _ c.lines.items.items _ c.lines.rest.now _ c.lines.invariant c.in_ok-add_source_line-2.ensures (sym c.next_line_feed.ensures.value ∙ c.in_default.is) refl in
    read.items_are
