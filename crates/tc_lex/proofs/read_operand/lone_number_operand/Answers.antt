use Rattle.std.proofs.Common.{false, map, ap, ◌∙◌}
use Rattle.std.proofs.lemmas.List.{length-map}
use Rattle.tc_lex.specs.Numbers.{token_number}
use Rattle.tc_lex.specs.Pieces.{piece_of}
use Rattle.tc_lex.specs.Operands.{plain_operand, number_operand_value}
use Rattle.tc_lex.proofs.NumberTokens.{lone_number}
use Rattle.tc_lex.proofs.read_operand.lone_number_operand.Goals as goal

pub returns : goal.returns
returns c =
    c.plain_operand.ensures
    ∙ ap plain_operand (c.number_operand_value.ensures ∙ ap (number_operand_value false) (c.token_number.ensures ∙ ap token_number c.token_text.ensures))
    ∙ lone_number (map piece_of c.args.ps.now) (length-map c.args.ps.now piece_of ∙ c.requires.one) c.requires.number
