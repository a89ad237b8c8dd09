-- The tokens of printed operands.
use Rattle.std.specs.Prelude.{ℕ, ◌*◌, Bool, true, if◌then◌else◌, List, [], ◌∷◌, ◌++◌, codes, map}
use Rattle.std.specs.Fmt.{decimal}
use Rattle.tc_lex.specs.declared.kinds.TokenKind.{TokenKind}
use Rattle.tc_lex.specs.declared.kinds.TokenKind.TheVariants as kind
use Rattle.tc_isa.specs.declared.table.Form.{Form}
use Rattle.tc_isa.specs.declared.fields.Fields.{Fields}
use Rattle.tc_isa.specs.Forms.{field_bounds}
use Rattle.tc_stmt.specs.declared.want.Want.{Want}
use Rattle.tc_stmt.specs.declared.want.Want.TheVariants.{Reg, A10, Number, Target, Absolute, Memory}
use Rattle.tc_isa.specs.Rows.{RowData}
use Rattle.tc_stmt.specs.Wants.{wants_of}
use Rattle.tc_lex.specs.Operands.{OperandData, operand_of_tokens}
use Rattle.tc_lex.specs.Pieces.{PieceData}
use Rattle.tc_stmt.specs.RowFields.{field_of}
use Rattle.tc_disasm.specs.Texts.{register_text, is_printed_negative, printed_magnitude, absolute_text}
use Rattle.tc_stmt.specs.Displacements.{can_jump_back}

-- a token of this kind with its text
abbrev pub printed_token : TokenKind → List ℕ → PieceData
printed_token k text = record { kind = k; text = text }

-- the tokens of a printed number: a minus if there is one, and the decimal digits of its magnitude
abbrev pub number_tokens : Bool → ℕ → List PieceData
number_tokens minus size = if minus then printed_token kind.Minus (45 ∷ []) ∷ printed_token kind.Number (decimal size) ∷ [] else printed_token kind.Number (decimal size) ∷ []

-- the tokens of the number in a field
abbrev pub field_number_tokens : Bool → ℕ → ℕ → List PieceData
field_number_tokens signed bound v = number_tokens (is_printed_negative signed bound v) (printed_magnitude signed bound v)

-- the tokens of a target: `.`, a sign, and a number of bytes
abbrev pub target_tokens : Bool → ℕ → ℕ → List PieceData
target_tokens both bound k = printed_token kind.Word (codes ".") ∷ (if is_printed_negative both bound k then printed_token kind.Minus (45 ∷ []) else printed_token kind.Plus (43 ∷ [])) ∷ printed_token kind.Number (decimal (2 * printed_magnitude both bound k)) ∷ []

-- the tokens of a memory operand's printed base register: `[aN]` or `[aN+]`
abbrev pub base_register_tokens : Bool → ℕ → List PieceData
base_register_tokens plus n = printed_token kind.Open (91 ∷ []) ∷ printed_token kind.Word (register_text true n) ∷ (if plus then printed_token kind.Plus (43 ∷ []) ∷ printed_token kind.Close (93 ∷ []) ∷ [] else printed_token kind.Close (93 ∷ []) ∷ [])

-- the tokens of the operand that the row wants, with these fields
unfoldable pub operand_tokens : Form → Fields → Want → List PieceData
operand_tokens form f (Reg bank field) = printed_token kind.Word (register_text bank (field_of field f)) ∷ []
operand_tokens form f A10 = printed_token kind.Word (codes "a10") ∷ []
operand_tokens form f (Number signed field) = field_number_tokens signed (field_of field (field_bounds form)) (field_of field f)
operand_tokens form f Target = target_tokens (can_jump_back form) (field_bounds form).k f.k
operand_tokens form f Absolute = printed_token kind.Number (absolute_text form f) ∷ []
operand_tokens form f (Memory plus offset) = base_register_tokens plus f.s2 ++ (if offset then field_number_tokens true (field_bounds form).k f.k else [])

-- the printed operands of a row with these fields, as the operands that their tokens stand for
abbrev pub printed_operands : RowData → Fields → List OperandData
printed_operands r f = map (λ w. operand_of_tokens (operand_tokens r.form f w)) (wants_of r)
