use Rattle.std.proofs.Common.{◌≡◌, ◌<◌, ◌+◌, ◌++◌, ◌∷◌, [], List, length, take, Option, Some, map, ap, sym, subst, ◌∙◌, ℕ, arith, length-drop}
use Rattle.std.specs.Prelude.{IfSome}
use Rattle.std.specs.List.{slice_split}
use Rattle.std.proofs.lemmas.Bool.Decides.{nat_tests}
use Rattle.tc_lex.specs.Pieces.{piece_of}
use Rattle.tc_lex.specs.Operands.{operand_of, operand_of_tokens, is_comma}
use Rattle.tc_lex.specs.declared.pieces.Piece.{Piece}
use Rattle.tc_lex.proofs.Parted.{parted_more, parted_end, operands-some, operands-none}
use Rattle.tc_lex.proofs.split_operands.operands_into.Goals as goal

pub returns-then-is_empty : goal.returns-then-is_empty
returns-then-is_empty c =
    let empty : length c.args.ps.now ≡ 0 = grind (arith, nat_tests) in
    ap (map operand_of) c.clear.ensures ∙ operands-none c.args.ps.now empty

pub returns : goal.returns
returns c =
    let some : 0 < length c.args.ps.now = grind (arith, nat_tests) in
    c.read_operand_into.ensures.operands
    ∙ parted_end (map operand_of c.parts.out.items) c.parts.rest.now (sym c.find_comma.ensures.value ∙ c.in_default.is)
    ∙ c.parts.invariant.parts
    ∙ operands-some c.args.ps.now some

pub parts-preserved : goal.parts-preserved
parts-preserved c =
    let out = map operand_of c.parts.out.items in
    let i = c.in-Some.i in
    let found : c.find_comma.result ≡ Some i = c.in-Some.is in
    record {
      parts =
          ap (λ os. os ++ map operand_of_tokens (slice_split is_comma (map piece_of c.tokens_after_comma-rest.result.now))) c.read_operand_before.ensures.operands
          ∙ ap (λ (ps : List Piece). (out ++ operand_of_tokens (take i (map piece_of c.parts.rest.now)) ∷ []) ++ map operand_of_tokens (slice_split is_comma (map piece_of ps))) c.tokens_after_comma-rest.ensures
          ∙ parted_more out c.parts.rest.now i (sym c.find_comma.ensures.value ∙ found)
          ∙ c.parts.invariant.parts;
      few =
          let within : i < length c.parts.rest.now = subst (λ (o : Option ℕ). IfSome o (λ j. j < length c.parts.rest.now)) found c.find_comma.ensures.within in
          omega (arith, c.read_operand_before.ensures.one_more, ap length c.tokens_after_comma-rest.ensures, length-drop (i + 1) c.parts.rest.now, within);
    }
