-- The bytes of instructions (manual, volume 2, instruction formats).
use Rattle.std.specs.Prelude.{◌≡◌, ℕ, List, slice_get, Bool, true, false, Option, Some, None, ◌+◌, ◌*◌, ◌/◌, ◌%◌, ◌^◌, []}
use Rattle.tc_isa.specs.Insts.{InstData, IsInst, inst_fields}
use Rattle.tc_isa.specs.Rows.{RowData, table_rows, is_32_bit_row}
use Rattle.tc_isa.specs.declared.fields.Fields.{Fields}
use Rattle.tcd_base.specs.Bytes.{four_bytes, two_bytes}
use Rattle.tc_isa.specs.declared.table.Form.{Form}
use Rattle.tc_isa.specs.declared.table.Form.TheVariants.{Rlc, Rr, Rc, Bol, Bo, Brr, Brc, B, Abs, Sys, Sr, Sc, Sb, Sbr, Src, Srr, Slr, Ssr}

-- the spelling of an instruction of this form as one number, the first byte lowest
unfoldable pub word_of_fields : Form → ℕ → ℕ → Fields → ℕ
word_of_fields Rlc op1 op2 f = f.c * 2 ^ 28 + f.k * 2 ^ 12 + f.s1 * 2 ^ 8 + op1
word_of_fields Rr op1 op2 f = f.c * 2 ^ 28 + op2 * 2 ^ 20 + f.n * 2 ^ 16 + f.s2 * 2 ^ 12 + f.s1 * 2 ^ 8 + op1
word_of_fields Rc op1 op2 f = f.c * 2 ^ 28 + op2 * 2 ^ 21 + f.k * 2 ^ 12 + f.s1 * 2 ^ 8 + op1
word_of_fields Bol op1 op2 f = f.k / 64 % 16 * 2 ^ 28 + f.k / 1024 * 2 ^ 22 + f.k % 64 * 2 ^ 16 + f.s2 * 2 ^ 12 + f.s1 * 2 ^ 8 + op1
word_of_fields Bo op1 op2 f = f.k / 64 * 2 ^ 28 + op2 * 2 ^ 22 + f.k % 64 * 2 ^ 16 + f.s2 * 2 ^ 12 + f.s1 * 2 ^ 8 + op1
word_of_fields Brr op1 op2 f = op2 * 2 ^ 31 + f.k * 2 ^ 16 + f.s2 * 2 ^ 12 + f.s1 * 2 ^ 8 + op1
word_of_fields Brc op1 op2 f = op2 * 2 ^ 31 + f.k * 2 ^ 16 + f.s2 * 2 ^ 12 + f.s1 * 2 ^ 8 + op1
word_of_fields B op1 op2 f = f.k % 2 ^ 16 * 2 ^ 16 + f.k / 2 ^ 16 * 2 ^ 8 + op1
word_of_fields Abs op1 op2 f = f.k / 64 % 16 * 2 ^ 28 + op2 * 2 ^ 26 + f.k / 1024 % 16 * 2 ^ 22 + f.k % 64 * 2 ^ 16 + f.k / 2 ^ 14 * 2 ^ 12 + f.s1 * 2 ^ 8 + op1
word_of_fields Sys op1 op2 f = op2 * 2 ^ 22 + op1
word_of_fields Sr op1 op2 f = op2 * 2 ^ 12 + f.s1 * 2 ^ 8 + op1
word_of_fields Sc op1 op2 f = f.k * 2 ^ 8 + op1
word_of_fields Sb op1 op2 f = f.k * 2 ^ 8 + op1
word_of_fields Sbr op1 op2 f = f.s2 * 2 ^ 12 + f.k * 2 ^ 8 + op1
word_of_fields Src op1 op2 f = f.k * 2 ^ 12 + f.s1 * 2 ^ 8 + op1
word_of_fields Srr op1 op2 f = f.s2 * 2 ^ 12 + f.s1 * 2 ^ 8 + op1
word_of_fields Slr op1 op2 f = f.s2 * 2 ^ 12 + f.s1 * 2 ^ 8 + op1
word_of_fields Ssr op1 op2 f = f.s2 * 2 ^ 12 + f.s1 * 2 ^ 8 + op1

-- the word of a row's instruction with these fields: its bytes as one number, the first lowest
abbrev pub row_word : RowData → Fields → ℕ
row_word r f = word_of_fields r.form r.op1 r.op2 f

-- the bytes of an instruction's word, lowest first: four if the Bool is true (32 bits), else two
abbrev pub four_or_two_bytes : Bool → ℕ → List ℕ
four_or_two_bytes true w = four_bytes w
four_or_two_bytes false w = two_bytes w

-- the bytes of the instruction of a row with these fields
abbrev pub spelling : RowData → Fields → List ℕ
spelling r f = four_or_two_bytes (is_32_bit_row r) (row_word r f)

-- The bytes spell the instruction: its row is listed, its fields fit, and the bytes are as many as
-- the row's form has. They hold the row's codes and the fields where the form has them, and 0 in
-- all other bits.
pub record Spells (bytes : List ℕ) (i : InstData) : Type 0 where
  pub inst : IsInst i
  pub is : bytes ≡ spelling inst.row (inst_fields i)

-- the bytes of an instruction in this row of the table; no bytes if there is no row
abbrev pub spelling_if_row : Option RowData → InstData → List ℕ
spelling_if_row None i = []
spelling_if_row (Some r) i = spelling r (inst_fields i)

-- the bytes of an instruction, by its row of the table; no bytes if the table has no such row
abbrev pub instruction_bytes : InstData → List ℕ
instruction_bytes i = spelling_if_row (slice_get table_rows i.row) i
