use Rattle.std.proofs.Common.{sym}
use Rattle.std.proofs.lemmas.List.{length-take-le}
use Rattle.tc_lex.specs.Cut.{tokens_of}
use Rattle.tc_stmt.proofs.FewItems.{uncut_within}
use Rattle.tc_stmt.proofs.PieceLines.{unread}
use Rattle.tc_stmt.proofs.line_reader.read_line_items.Goals as goal

pub slice_bounds-read_uncut_line-end : goal.slice_bounds-read_uncut_line-end
slice_bounds-read_uncut_line-end c = sym (length-take-le c.in-Err.at c.args.line.now (uncut_within c.args.line.now c.in-Err.at (unread c.args.line.now (tokens_of c.args.line.now) c.in-Err.at c.in-Err.ensures.pieces)))
