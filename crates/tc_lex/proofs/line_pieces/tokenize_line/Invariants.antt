use Rattle.std.proofs.Common.{◌≡◌, ◌-◌, ◌≤◌, length, drop, map}
use Rattle.tc_lex.specs.Cut.{tokens_after_skip, tokens_of}
use Rattle.tc_lex.specs.Pieces.{piece_of, pieces_of_tokens}
use Rattle.tc_lex.proofs.PieceLaws.{with_pieces}
use Rattle.tc_lex.proofs.line_pieces.tokenize_line.Given as goal

abbrev pub invariant-cut : goal.invariant-cut
invariant-cut l = record {
  rest_is : with_pieces (map piece_of l.out.items) (pieces_of_tokens l.line (tokens_after_skip (drop l.at l.line) (64 - length l.out.items) l.at 0)) ≡ pieces_of_tokens l.line (tokens_of l.line);
  few : length l.out.items ≤ 64;
}

abbrev pub decreases-cut : goal.decreases-cut
decreases-cut l = length l.line - l.at
