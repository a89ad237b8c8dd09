-- The forms of instructions: the places and the bounds of the fields in the words of each form.
use Rattle.std.specs.Prelude.{◌==◌, ◌+◌, ◌*◌, ◌/◌, ◌%◌, ◌^◌, ℕ, Bool, true, false}
use Rattle.tc_isa.specs.declared.fields.Fields.{Fields}
use Rattle.tc_isa.specs.declared.table.Form.{Form}
use Rattle.tc_isa.specs.declared.table.Form.TheVariants.{Rlc, Rr, Rc, Bol, Bo, Brr, Brc, B, Abs, Sys, Sr, Sc, Sb, Sbr, Src, Srr, Slr, Ssr}

-- the numbers c, s1, s2, n and k in one record: the fields of an instruction, or the bounds that
-- its form has for them
abbrev pub fields : ℕ → ℕ → ℕ → ℕ → ℕ → Fields
fields c s1 s2 n k = record { c = c; s1 = s1; s2 = s2; n = n; k = k }

-- the bounds, exclusive, of the fields of a form; 1 for a field that the form doesn't have
unfoldable pub field_bounds : Form → Fields
field_bounds Rlc = fields 16 16 1 1 65536
field_bounds Rr = fields 16 16 16 4 1
field_bounds Rc = fields 16 16 1 1 512
field_bounds Bol = fields 1 16 16 1 65536
field_bounds Bo = fields 1 16 16 1 1024
field_bounds Brr = fields 1 16 16 1 32768
field_bounds Brc = fields 1 16 16 1 32768
field_bounds B = fields 1 1 1 1 16777216
field_bounds Abs = fields 1 16 1 1 262144
field_bounds Sys = fields 1 1 1 1 1
field_bounds Sr = fields 1 16 1 1 1
field_bounds Sc = fields 1 1 1 1 256
field_bounds Sb = fields 1 1 1 1 256
field_bounds Sbr = fields 1 1 16 1 16
field_bounds Src = fields 1 16 1 1 16
field_bounds Srr = fields 1 16 16 1 1
field_bounds Slr = fields 1 16 16 1 1
field_bounds Ssr = fields 1 16 16 1 1

-- the bound, exclusive, of the second operation code in instructions of this form; 1 for a form
-- without one
unfoldable pub second_opcode_bound : Form → ℕ
second_opcode_bound Rlc = 1
second_opcode_bound Rr = 256
second_opcode_bound Rc = 128
second_opcode_bound Bol = 1
second_opcode_bound Bo = 64
second_opcode_bound Brr = 2
second_opcode_bound Brc = 2
second_opcode_bound B = 1
second_opcode_bound Abs = 4
second_opcode_bound Sys = 64
second_opcode_bound Sr = 16
second_opcode_bound Sc = 1
second_opcode_bound Sb = 1
second_opcode_bound Sbr = 1
second_opcode_bound Src = 1
second_opcode_bound Srr = 1
second_opcode_bound Slr = 1
second_opcode_bound Ssr = 1

-- the fields in the word of an instruction of this form; 0 for a field that the form doesn't have
unfoldable pub fields_of_word : Form → ℕ → Fields
fields_of_word Rlc w = fields (w / 2 ^ 28) (w / 2 ^ 8 % 16) (0) (0) (w / 2 ^ 12 % 2 ^ 16)
fields_of_word Rr w = fields (w / 2 ^ 28) (w / 2 ^ 8 % 16) (w / 2 ^ 12 % 16) (w / 2 ^ 16 % 4) (0)
fields_of_word Rc w = fields (w / 2 ^ 28) (w / 2 ^ 8 % 16) (0) (0) (w / 2 ^ 12 % 512)
fields_of_word Bol w = fields (0) (w / 2 ^ 8 % 16) (w / 2 ^ 12 % 16) (0) (w / 2 ^ 28 * 64 + w / 2 ^ 22 % 64 * 1024 + w / 2 ^ 16 % 64)
fields_of_word Bo w = fields (0) (w / 2 ^ 8 % 16) (w / 2 ^ 12 % 16) (0) (w / 2 ^ 28 * 64 + w / 2 ^ 16 % 64)
fields_of_word Brr w = fields (0) (w / 2 ^ 8 % 16) (w / 2 ^ 12 % 16) (0) (w / 2 ^ 16 % 2 ^ 15)
fields_of_word Brc w = fields (0) (w / 2 ^ 8 % 16) (w / 2 ^ 12 % 16) (0) (w / 2 ^ 16 % 2 ^ 15)
fields_of_word B w = fields (0) (0) (0) (0) (w / 2 ^ 8 % 256 * 2 ^ 16 + w / 2 ^ 16)
fields_of_word Abs w = fields (0) (w / 2 ^ 8 % 16) (0) (0) (w / 2 ^ 28 * 64 + w / 2 ^ 22 % 16 * 1024 + w / 2 ^ 16 % 64 + w / 2 ^ 12 % 16 * 2 ^ 14)
fields_of_word Sys w = fields (0) (0) (0) (0) (0)
fields_of_word Sr w = fields (0) (w / 2 ^ 8 % 16) (0) (0) (0)
fields_of_word Sc w = fields (0) (0) (0) (0) (w / 2 ^ 8 % 256)
fields_of_word Sb w = fields (0) (0) (0) (0) (w / 2 ^ 8 % 256)
fields_of_word Sbr w = fields (0) (0) (w / 2 ^ 12 % 16) (0) (w / 2 ^ 8 % 16)
fields_of_word Src w = fields (0) (w / 2 ^ 8 % 16) (0) (0) (w / 2 ^ 12 % 16)
fields_of_word Srr w = fields (0) (w / 2 ^ 8 % 16) (w / 2 ^ 12 % 16) (0) (0)
fields_of_word Slr w = fields (0) (w / 2 ^ 8 % 16) (w / 2 ^ 12 % 16) (0) (0)
fields_of_word Ssr w = fields (0) (w / 2 ^ 8 % 16) (w / 2 ^ 12 % 16) (0) (0)

-- the second operation code in the word of an instruction, from the bits where its form has it; 0
-- for a form without one
unfoldable pub second_opcode : Form → ℕ → ℕ
second_opcode Rlc w = 0
second_opcode Rr w = w / 2 ^ 20 % 256
second_opcode Rc w = w / 2 ^ 21 % 128
second_opcode Bol w = 0
second_opcode Bo w = w / 2 ^ 22 % 64
second_opcode Brr w = w / 2 ^ 31
second_opcode Brc w = w / 2 ^ 31
second_opcode B w = 0
second_opcode Abs w = w / 2 ^ 26 % 4
second_opcode Sys w = w / 2 ^ 22 % 64
second_opcode Sr w = w / 2 ^ 12 % 16
second_opcode Sc w = 0
second_opcode Sb w = 0
second_opcode Sbr w = 0
second_opcode Src w = 0
second_opcode Srr w = 0
second_opcode Slr w = 0
second_opcode Ssr w = 0

-- instructions of this form have 32 bits; those of the other forms have 16
unfoldable pub is_32_bit_form : Form → Bool
is_32_bit_form Rlc = true
is_32_bit_form Rr = true
is_32_bit_form Rc = true
is_32_bit_form Bol = true
is_32_bit_form Bo = true
is_32_bit_form Brr = true
is_32_bit_form Brc = true
is_32_bit_form B = true
is_32_bit_form Abs = true
is_32_bit_form Sys = true
is_32_bit_form Sr = false
is_32_bit_form Sc = false
is_32_bit_form Sb = false
is_32_bit_form Sbr = false
is_32_bit_form Src = false
is_32_bit_form Srr = false
is_32_bit_form Slr = false
is_32_bit_form Ssr = false

-- the number of a form of instruction words, from 0 for RLC to 17 for SSR, so that forms can be
-- compared
unfoldable pub form_index : Form → ℕ
form_index Rlc = 0
form_index Rr = 1
form_index Rc = 2
form_index Bol = 3
form_index Bo = 4
form_index Brr = 5
form_index Brc = 6
form_index B = 7
form_index Abs = 8
form_index Sys = 9
form_index Sr = 10
form_index Sc = 11
form_index Sb = 12
form_index Sbr = 13
form_index Src = 14
form_index Srr = 15
form_index Slr = 16
form_index Ssr = 17

-- the form is BOL, that of loads, stores and lea with a long offset, of 16 bits
abbrev pub is_bol_form : Form → Bool
is_bol_form form = form_index form == 3

-- the form is B, that of direct calls and jumps of 32 bits
abbrev pub is_b_form : Form → Bool
is_b_form form = form_index form == 7

-- the form is ABS, that of loads, stores and lea with an absolute address
abbrev pub is_abs_form : Form → Bool
is_abs_form form = form_index form == 8

-- the form of an instruction word is SB, that of calls, jumps and branches of 16 bits that go both
-- ways
abbrev pub is_sb_form : Form → Bool
is_sb_form form = form_index form == 12

-- the form is SBR, that of branches of 16 bits on a data register, which only go forwards
abbrev pub is_sbr_form : Form → Bool
is_sbr_form form = form_index form == 13
