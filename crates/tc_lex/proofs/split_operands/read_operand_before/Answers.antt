use Rattle.std.proofs.Common.{◌++◌, ◌∷◌, [], take, map, sym, ap, ◌∙◌, arith}
use Rattle.std.proofs.lemmas.List.{take-map}
use Rattle.tc_lex.specs.Pieces.{piece_of}
use Rattle.tc_lex.specs.Operands.{operand_of_tokens, operand_of}
use Rattle.tc_lex.proofs.split_operands.read_operand_before.Goals as goal

pub returns-clause-operands : goal.returns-clause-operands
returns-clause-operands c =
    c.read_operand_into.ensures.operands
    ∙ ap (λ n. map operand_of c.args.out.now.items ++ operand_of_tokens (map piece_of (take n c.args.ps.now)) ∷ []) (omega arith)
    ∙ ap (λ ps. map operand_of c.args.out.now.items ++ operand_of_tokens ps ∷ []) (sym (take-map piece_of c.args.i c.args.ps.now))
