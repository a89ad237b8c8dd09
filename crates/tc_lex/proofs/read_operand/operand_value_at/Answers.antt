use Rattle.std.proofs.Common.{map, sym, ◌∙◌}
use Rattle.std.proofs.lemmas.List.{length-map}
use Rattle.tc_lex.specs.Pieces.{piece_of}
use Rattle.tc_lex.proofs.NumberTokens.{word_value}
use Rattle.tc_lex.proofs.read_operand.operand_value_at.Goals as goal

pub returns-then-is_token_kind : goal.returns-then-is_token_kind
returns-then-is_token_kind c =
    c.symbol_value_at.ensures
    ∙ word_value (map piece_of c.args.ps.now) c.args.at (sym c.is_token_kind.ensures.value ∙ c.if-is_token_kind.true) (λ e. c.if-ps-at.false (sym (length-map c.args.ps.now piece_of) ∙ e))
