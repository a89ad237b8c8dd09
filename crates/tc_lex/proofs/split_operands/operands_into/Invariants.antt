use Rattle.std.proofs.Common.{◌≡◌, ◌+◌, ◌≤◌, ◌++◌, map, length}
use Rattle.std.specs.List.{slice_split}
use Rattle.tc_lex.specs.Pieces.{piece_of}
use Rattle.tc_lex.specs.Operands.{operand_of_tokens, operand_of, is_comma}
use Rattle.tc_lex.proofs.split_operands.operands_into.Given as goal

abbrev pub invariant-parts : goal.invariant-parts
invariant-parts l = record {
  parts : map operand_of l.out.items ++ map operand_of_tokens (slice_split is_comma (map piece_of l.rest)) ≡ map operand_of_tokens (slice_split is_comma (map piece_of l.ps));
  few : length l.out.items + length l.rest ≤ 64;
}

abbrev pub decreases-parts : goal.decreases-parts
decreases-parts l = length l.rest
