use Rattle.std.proofs.Common.{◌≡◌, ◌-◌, ◌≤◌, length, drop}
use Rattle.tc_lex.specs.Cut.{tokens_after_skip, with_first_tokens, tokens_of}
use Rattle.tc_lex.proofs.cutting.tokens_into.Given as goal

abbrev pub invariant-cut : goal.invariant-cut
invariant-cut l = record {
  rest_is : with_first_tokens l.out.items (tokens_after_skip (drop l.at l.line) (64 - length l.out.items) l.at 0) ≡ tokens_of l.line;
  few : length l.out.items ≤ 64;
}

abbrev pub decreases-cut : goal.decreases-cut
decreases-cut l = length l.line - l.at
