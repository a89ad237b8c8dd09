-- Search for an instruction by its word, and by the low bytes of its word.
use Rattle.std.specs.Prelude.{◌≡◌, ◌+◌, ◌*◌, ◌/◌, ◌%◌, ◌^◌, ◌<◌, ℕ, zero, suc, Bool, true, false, ◌==◌, ◌&&◌, ◌||◌, nat_lt, nat_le, List, ◌∷◌, Option, Some, None, slice_get, []}
use Rattle.tc_isa.specs.declared.table.Form.{Form}
use Rattle.tc_isa.specs.declared.table.Form.TheVariants.{Rlc, Rr, Rc, Bol, Bo, Brr, Brc, B, Abs, Sys, Sr, Sc, Sb, Sbr, Src, Srr, Slr, Ssr}
use Rattle.tc_isa.specs.Rows.{RowData, table_rows}
use Rattle.tc_isa.specs.declared.fields.Fields.{Fields}
use Rattle.tc_isa.specs.declared.fields.Uses.{Uses}
use Rattle.tc_isa.specs.Forms.{form_index, field_bounds}
use Rattle.tc_isa.specs.ValidRowFields.{used_fields}
use Rattle.tc_isa.specs.Spelling.{row_word}
use Rattle.tc_isa.specs.Insts.{InstData, IsInst, inst_fields}
use Rattle.tc_encode.specs.Decoding.{row_instruction_length}

-- w is the word of the instruction
pub record IsWordOf (w : ℕ) (i : InstData) : Type 0 where
  pub inst : IsInst i
  pub is : row_word inst.row (inst_fields i) ≡ w

-- no listed instruction has the word w
abbrev pub NoInstructionHasWord : ℕ → Type 0
NoInstructionHasWord w = (i : InstData) → IsWordOf w i → ⊥

-- no instruction of the row with this number has the word w
abbrev pub RowLacksWord : ℕ → ℕ → Type 0
RowLacksWord place w = (i : InstData) → IsWordOf w i → i.row ≡ place → ⊥

-- a word whose lowest byte is even, as that of an instruction of 16 bits, has no more than 16 bits
abbrev pub EvenWordHas16Bits : ℕ → Type 0
EvenWordHas16Bits w = w % 2 ≡ 0 → w < 2 ^ 16

-- the word b with the low byte of a, for a search by a word's low byte
abbrev pub with_low_byte : ℕ → ℕ → ℕ
with_low_byte a b = a % 2 ^ 8 + b / 2 ^ 8 * 2 ^ 8

-- the word b with the low three bytes of a, for a search by a word's low three bytes
abbrev pub with_low_three_bytes : ℕ → ℕ → ℕ
with_low_three_bytes a b = a % 2 ^ 24 + b / 2 ^ 24 * 2 ^ 24

-- 256 to the power of n, for n up to 3: the number of values of the low n bytes of a word
abbrev pub power_of_256 : ℕ → ℕ
power_of_256 zero = 1
power_of_256 (suc zero) = 2 ^ 8
power_of_256 (suc (suc zero)) = 2 ^ 16
power_of_256 (suc (suc (suc n))) = 2 ^ 24

-- the word b with the low n bytes of a, for n up to 3, for a search by a word's low n bytes
abbrev pub with_low_bytes : ℕ → ℕ → ℕ → ℕ
with_low_bytes n a b = a % power_of_256 n + b / power_of_256 n * power_of_256 n

-- the low n bytes of the instruction's word are `part`, and the instruction is longer than n bytes
pub record IsCompletionOf (n part : ℕ) (i : InstData) : Type 0 where
  pub inst : IsInst i
  pub longer : n < row_instruction_length inst.row
  pub is : row_word inst.row (inst_fields i) % power_of_256 n ≡ part

-- no instruction of the row with this number is longer than n bytes and has the low n bytes `part`
abbrev pub RowLacksCompletion : ℕ → ℕ → ℕ → Type 0
RowLacksCompletion place n part = (i : InstData) → IsCompletionOf n part i → i.row ≡ place → ⊥

-- in the search by a word: there is a row at the start of an index range, and it has the form of
-- this row
abbrev pub has_same_form : RowData → Option RowData → Bool
has_same_form r None = false
has_same_form r (Some s) = form_index s.form == form_index r.form

-- in the search by a word: the row's place is in the index range of its first byte, and the row at
-- the start of that range has its form
abbrev pub is_in_index_range : ℕ → RowData → Option ℕ → Option ℕ → Bool
is_in_index_range place r None end = false
is_in_index_range place r (Some start) None = false
is_in_index_range place r (Some start) (Some end) = nat_le start place && nat_lt place end && has_same_form r (slice_get table_rows start)

-- for the search by a word: each row, numbered from `place` on, is in the index range of its first
-- byte, and the row at the start of that range has its form
abbrev pub are_rows_in_index_ranges : List ℕ → List ℕ → ℕ → List RowData → Bool
are_rows_in_index_ranges starts ends place [] = true
are_rows_in_index_ranges starts ends place (r ∷ rs) = is_in_index_range place r (slice_get starts r.op1) (slice_get ends r.op1) && are_rows_in_index_ranges starts ends (suc place) rs

-- each row of the instruction table is in the index range of its first byte, from the entry of
-- `starts` up to before that of `ends`, and the row at the range's start has the same form
abbrev pub IndexesRowsByFirstByte : List ℕ → List ℕ → Type 0
IndexesRowsByFirstByte starts ends = are_rows_in_index_ranges starts ends 0 table_rows ≡ true

-- the entry that the index of codes has for a search by a word is this row's number
abbrev pub is_index_entry : ℕ → Option ℕ → Bool
is_index_entry place None = false
is_index_entry place (Some p) = p == place

-- in the search by a word: the index of codes has this row's number, as far after the base as the
-- row's second code says
abbrev pub is_at_index_place : List ℕ → ℕ → RowData → Option ℕ → Bool
is_at_index_place places place r None = false
is_at_index_place places place r (Some base) = is_index_entry place (slice_get places (base + r.op2))

-- for the search by a word: the index has the number of each row, numbered from `place` on, by its
-- first byte and second opcode
abbrev pub are_rows_indexed_by_opcodes : List ℕ → List ℕ → ℕ → List RowData → Bool
are_rows_indexed_by_opcodes bases places place [] = true
are_rows_indexed_by_opcodes bases places place (r ∷ rs) = is_at_index_place places place r (slice_get bases r.op1) && are_rows_indexed_by_opcodes bases places (suc place) rs

-- the index has the number of each row of the instruction table, in the list of numbers at the base
-- of the row's first opcode plus its second opcode
abbrev pub IndexesRowsByOpcodes : List ℕ → List ℕ → Type 0
IndexesRowsByOpcodes bases numbers = are_rows_indexed_by_opcodes bases numbers 0 table_rows ≡ true

-- each field is one that the row has, or always 0 in its form, so that the search by a word needn't
-- test it
abbrev pub has_all_form_fields : Uses → Fields → Bool
has_all_form_fields u b = (u.c || b.c == 1) && (u.s1 || b.s1 == 1) && (u.s2 || b.s2 == 1) && (u.n || b.n == 1) && (u.k || b.k == 1)

-- the row's instructions use all fields of their form, so that the search by a word needn't test
-- that others are 0
abbrev pub has_all_fields : RowData → Bool
has_all_fields r = has_all_form_fields (used_fields r) (field_bounds r.form)

-- the word to search an instruction by is 0 in the bits that its form has for no field and no code
unfoldable pub are_unused_bits_zero : Form → ℕ → Bool
are_unused_bits_zero Rlc w = true
are_unused_bits_zero Rr w = w / 2 ^ 18 % 4 == 0
are_unused_bits_zero Rc w = true
are_unused_bits_zero Bol w = true
are_unused_bits_zero Bo w = true
are_unused_bits_zero Brr w = true
are_unused_bits_zero Brc w = true
are_unused_bits_zero B w = true
are_unused_bits_zero Abs w = true
are_unused_bits_zero Sys w = w / 2 ^ 28 == 0 && w / 2 ^ 8 % 2 ^ 14 == 0
are_unused_bits_zero Sr w = true
are_unused_bits_zero Sc w = true
are_unused_bits_zero Sb w = true
are_unused_bits_zero Sbr w = true
are_unused_bits_zero Src w = true
are_unused_bits_zero Srr w = true
are_unused_bits_zero Slr w = true
are_unused_bits_zero Ssr w = true

-- the word b with the low two bytes of a, for a search by a word's low two bytes
abbrev pub with_low_two_bytes : ℕ → ℕ → ℕ
with_low_two_bytes a b = a % 2 ^ 16 + b / 2 ^ 16 * 2 ^ 16
