use Rattle.std.proofs.Common.{false, map, ap, ◌∙◌}
use Rattle.std.proofs.lemmas.List.{length-map}
use Rattle.tc_lex.specs.declared.operand.Shape.TheVariants as shape
use Rattle.tc_lex.specs.Pieces.{piece_of}
use Rattle.tc_lex.specs.Operands.{value_with_shape, plain_operand}
use Rattle.tc_lex.proofs.NumberTokens.{lone_word}
use Rattle.tc_lex.proofs.read_operand.lone_word_operand.Goals as goal

pub returns : goal.returns
returns c =
    c.plain_operand.ensures
    ∙ ap plain_operand c.value_with_shape.ensures
    ∙ ap (λ text. plain_operand (value_with_shape shape.Word text false 0)) c.token_text.ensures
    ∙ lone_word (map piece_of c.args.ps.now) (length-map c.args.ps.now piece_of ∙ c.requires.one) c.requires.word
