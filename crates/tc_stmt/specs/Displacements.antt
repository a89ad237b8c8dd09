-- Displacements of jumps: the least rule that one breaks, and the relocation of a target.
use Rattle.std.specs.Prelude.{ℕ, ◌-◌, ◌*◌, ◌/◌, ◌%◌, ◌==◌, not, nat_lt, min, Bool, if◌then◌else◌}
use Rattle.tc_isa.specs.Relocations.{rel24, rel15}
use Rattle.tc_stmt.specs.SourceRules.{wide_number, no_rule, far_target, odd_displacement}
use Rattle.tc_isa.specs.Rows.{RowData, is_32_bit_row}
use Rattle.tc_isa.specs.declared.table.Form.{Form}
use Rattle.tc_isa.specs.Forms.{field_bounds, is_sbr_form, is_b_form}
use Rattle.tc_stmt.specs.declared.want.Field.TheVariants.{K}
use Rattle.tc_stmt.specs.OperandForms.{operand_number_modulo}
use Rattle.tc_stmt.specs.RowFields.{RowFieldsData, with_rule, with_field_value}

-- `size` bytes, backwards if `minus`, are too far for a row of this form, whose field has `bound`
-- values; SBR (form 13) only reaches forwards
abbrev pub is_far_displacement : Form → ℕ → Bool → ℕ → Bool
is_far_displacement form bound minus size =
    if is_sbr_form form
    then (if minus then not (size == 0) else nat_lt (2 * (bound - 1)) size)
    else (if minus then nat_lt bound size else nat_lt (bound - 2) size)

-- the displacement is an odd number of bytes
abbrev pub is_odd_displacement : ℕ → Bool
is_odd_displacement size = size % 2 == 1

-- the least rule that a displacement of this many bytes breaks
unfoldable pub rule_broken_by_displacement : RowData → Bool → ℕ → ℕ
rule_broken_by_displacement r minus size =
    min (if is_far_displacement r.form (field_bounds r.form).k minus size then (if is_32_bit_row r then wide_number else far_target) else no_rule) (if is_odd_displacement size then odd_displacement else no_rule)

-- a row's fields after a jump's displacement of this many bytes fills one of them, or breaks a rule
unfoldable pub with_displacement : RowData → Bool → ℕ → RowFieldsData → RowFieldsData
with_displacement r minus size acc =
    if rule_broken_by_displacement r minus size == no_rule then with_field_value K (operand_number_modulo (field_bounds r.form).k minus (size / 2)) acc else with_rule (rule_broken_by_displacement r minus size) acc

-- the relocation of an operand that names the target of a jump or call instead of giving a
-- displacement: rel24 in a B row, rel15 in other rows of 32 bits, and none in rows of 16 bits
unfoldable pub target_operand_relocation : RowData → ℕ
target_operand_relocation r = if is_32_bit_row r then (if is_b_form r.form then rel24 else rel15) else 0

-- a jump or call of this form can have a negative displacement: all forms but SBR
unfoldable pub can_jump_back : Form → Bool
can_jump_back form = not (is_sbr_form form)
