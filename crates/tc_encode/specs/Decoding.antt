-- Bytes, decoded as an instruction.
use Rattle.std.specs.Prelude.{◌%◌, ◌==◌, ◌&&◌, ℕ, suc, Bool, List, ◌∷◌, ◌++◌, length, take, drop, Option, Some, None, Result, Ok, Err, nat_lt, if◌then◌else◌, ◌≢◌, ◌≤◌, []}
use Rattle.std.specs.List.{list_any}
use Rattle.std.specs.Str.{bytes_eq}
use Rattle.tc_isa.specs.declared.fields.Fields.{Fields}
use Rattle.tc_isa.specs.Rows.{RowData, table_rows}
use Rattle.tc_isa.specs.Forms.{field_bounds, fields_of_word}
use Rattle.tc_isa.specs.ValidRowFields.{used_fields, are_unused_fields_zero, are_registers_allowed, least_fields}
use Rattle.tc_isa.specs.InBounds.{are_fields_below}
use Rattle.tc_isa.specs.Spelling.{spelling, Spells}
use Rattle.tc_isa.specs.Insts.{InstData}
use Rattle.tc_encode.specs.declared.errors.DecodeErr.{DecodeErr}
use Rattle.tc_encode.specs.declared.errors.DecodeErr.TheVariants.{Short, NotListed}
use Rattle.tcd_base.specs.Bytes.{number_from_bytes}

-- the number of bytes of an instruction with this first byte: 4 if bit 0 is set, else 2
abbrev pub instruction_length : ℕ → ℕ
instruction_length first = if first % 2 == 1 then 4 else 2

-- the number of bytes of a row's instructions
abbrev pub row_instruction_length : RowData → ℕ
row_instruction_length r = instruction_length r.op1

-- decoded fields fit the row: below the bounds of its form, 0 if the row doesn't have them, and
-- with registers that the row allows
abbrev pub decoded_fields_fit : RowData → Fields → Bool
decoded_fields_fit r f = are_fields_below f (field_bounds r.form) && are_unused_fields_zero (used_fields r) f && are_registers_allowed r f

-- the fields in the word that the bytes begin with, if that has the row's form
abbrev pub leading_fields : List ℕ → RowData → Fields
leading_fields bytes r = fields_of_word r.form (number_from_bytes (take (row_instruction_length r) bytes))

-- the bytes begin with an instruction of the row: the fields there fit, and spell these bytes
abbrev pub begins_with_row : List ℕ → RowData → Bool
begins_with_row bytes r = decoded_fields_fit r (leading_fields bytes r) && bytes_eq (take (row_instruction_length r) bytes) (spelling r (leading_fields bytes r))

-- the bytes are the beginning of an instruction of the row: completed by its least fields, they
-- spell one
abbrev pub is_prefix_of_row : List ℕ → RowData → Bool
is_prefix_of_row bytes r = nat_lt (length bytes) (row_instruction_length r) && begins_with_row (bytes ++ drop (length bytes) (spelling r (least_fields r))) r

-- the decoded instruction: that of the row with this number, with these fields
abbrev pub instruction_at_row : ℕ → Fields → InstData
instruction_at_row place f = record { row = place; c = f.c; s1 = f.s1; s2 = f.s2; n = f.n; k = f.k }

-- the first row, numbered from `place` on, of which the bytes begin with an instruction: the
-- instruction, and its number of bytes
abbrev pub first_row_match : List ℕ → ℕ → List RowData → Option (InstData × ℕ)
first_row_match bytes place [] = None
first_row_match bytes place (r ∷ rs) = if begins_with_row bytes r then Some (instruction_at_row place (leading_fields bytes r), row_instruction_length r) else first_row_match bytes (suc place) rs

-- the instruction found, with its length; else Short if the bytes begin one, else NotListed
abbrev pub decode_result : List ℕ → Option (InstData × ℕ) → Result (InstData × ℕ) DecodeErr
decode_result bytes (Some found) = Ok found
decode_result bytes None = if list_any (is_prefix_of_row bytes) table_rows then Err Short else Err NotListed

-- the instruction that the bytes begin with, and its number of bytes; else Short if the bytes are
-- the beginning of one, else NotListed
unfoldable pub decoded_of : List ℕ → Result (InstData × ℕ) DecodeErr
decoded_of bytes = decode_result bytes (first_row_match bytes 0 table_rows)

-- the first n bytes are the spelling of the instruction
pub record BeginsWith (bytes : List ℕ) (i : InstData) (n : ℕ) : Type 0 where
  pub within : n ≤ length bytes
  pub spells : Spells (take n bytes) i

-- the bytes are the first few of the spelling of an instruction, but not all
pub record IsInstPrefix (bytes : List ℕ) : Type 0 where
  pub rest : List ℕ
  pub more : rest ≢ []
  pub inst : InstData
  pub spells : Spells (bytes ++ rest) inst
