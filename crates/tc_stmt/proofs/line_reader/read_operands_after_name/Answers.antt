use Rattle.std.proofs.Common.{◌+◌, ◌∙◌, List, map, ap, sym}
use Rattle.std.proofs.lemmas.List.{drop-map}
use Rattle.tc_lex.specs.declared.pieces.Piece.{Piece}
use Rattle.tc_lex.specs.Pieces.{PieceData, piece_of}
use Rattle.tc_lex.specs.Operands.{operands_of_tokens}
use Rattle.tc_stmt.proofs.line_reader.read_operands_after_name.Goals as goal

pub returns : goal.returns
returns c =
    c.operands_into.ensures
    ∙ ap (λ (ps : List Piece). operands_of_tokens (map piece_of ps)) c.tokens_after_name.ensures
    ∙ ap (λ (ps : List PieceData). operands_of_tokens ps) (sym (drop-map piece_of (c.args.at + 1) c.args.ps.now))
